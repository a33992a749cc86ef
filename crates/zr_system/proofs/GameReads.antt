-- What the code reads of a game and of leaves.
use Rattle.std.proofs.Common.{◌≡◌, ℕ, ◌<◌, ◌^◌, arith, refl, sym, ap, ap₂, subst, ◌∙◌, List, [], ◌++◌, map, length, get_or, All, Some}
use Rattle.std.specs.Global.{Vec}
use Rattle.std.proofs.lemmas.List.{get_or-map, length-map}
use Rattle.std.proofs.lemmas.Option.{slice_get_read}
use Rattle.zr_base.specs.declared.row.Cut.{Cut}
use Rattle.zr_game.specs.declared.game.Game.{Game}
use Rattle.zr_game.specs.declared.player.Player.{Player}
use Rattle.zr_game.specs.Players.{PlayerOf, player_of}
use Rattle.zr_game.specs.Forms.{IsPlayer}
use Rattle.zr_game.specs.Leaves.{Bound, IsLeafOf, slots}
use Rattle.zr_game.specs.Games.{game_of}
use Rattle.zr_game.proofs.Items.{found}
use Rattle.zr_system.specs.declared.leaves.Leaves.{Leaves}
use Rattle.zr_system.specs.declared.leaves.Region.{Region}
use Rattle.zr_game.specs.declared.named.Named.{Named}
use Rattle.zr_game.specs.Named.{NamedOf, named_of}
use Rattle.zr_system.specs.Regions.{RegionOf, named_at, all_slots, cut_of, leaf_count, leaves_of, no_player, no_region, player_at, region_at, region_of}
use Rattle.zr_system.specs.SlotRows.{HasForms, HasPlaces}
use Rattle.zr_system.specs.Asked.{AreLeaves, IsCutForm, IsNamedForm}

-- of the leaves' content
module _ (leaves : Leaves) (i : ℕ) where
  pub regions_read : (list : Vec Region) → i < length leaves.regions.items
      → list ≡ get_or leaves.regions.items i list
      → get_or (leaves_of leaves).regions i [] ≡ map region_of list.items
  regions_read list h is =
      get_or-map (λ (v : Vec Region). map region_of v.items) leaves.regions.items i list [] h
      ∙ ap (λ (v : Vec Region). map region_of v.items) (sym is)

  pub leaf_count_read : (list : Vec Region) → i < length leaves.regions.items
      → list ≡ get_or leaves.regions.items i list
      → leaf_count (leaves_of leaves) i ≡ length list.items
  leaf_count_read list h is = ap (λ (v : List RegionOf). length v) (regions_read list h is)
      ∙ length-map list.items region_of

  pub region_read : (list : Vec Region) (k : ℕ) (region : Region) → i < length leaves.regions.items
      → list ≡ get_or leaves.regions.items i list → k < length list.items
      → region ≡ get_or list.items k region → region_at (leaves_of leaves) i k ≡ region_of region
  region_read list k region h is below that =
      ap (λ (v : List RegionOf). get_or v k no_region) (regions_read list h is)
      ∙ get_or-map region_of list.items k region no_region below ∙ ap region_of (sym that)

  pub cut_list_read : (list : Vec Cut) → i < length leaves.cuts.items
      → list ≡ get_or leaves.cuts.items i list
      → get_or (leaves_of leaves).cuts i [] ≡ map cut_of list.items
  cut_list_read list h is =
      get_or-map (λ (v : Vec Cut). map cut_of v.items) leaves.cuts.items i list [] h
      ∙ ap (λ (v : Vec Cut). map cut_of v.items) (sym is)

module _ (game : Game) (i : ℕ) (player : Player) (h : i < length game.players.items)
    (is : player ≡ get_or game.players.items i player) where
  pub player_read : player_at (game_of game) i ≡ player_of player
  player_read = get_or-map player_of game.players.items i player no_player h ∙ ap player_of (sym is)

  pub is_player : IsPlayer (game_of game) i (player_of player)
  is_player = found player_of game.players.items i player h is

  pub forms_read : HasForms (player_of player)
  forms_read =
      let form = game.sound.players i (player_of player) is_player in
      record {
        counts = record {
          some_var = form.some_var;
          vars = form.var_count;
          rows = form.row_count;
          pairs = form.pair_count;
          cross = form.cross_count;
          others = form.other_count;
        };
        rows = form.rows;
        pairs = form.pairs;
      }

  module _ (leaves : Leaves) (are : AreLeaves (game_of game) leaves) where
    pub places_read : (list : Vec Region) (k : ℕ) (region : Region)
        → i < length leaves.regions.items → list ≡ get_or leaves.regions.items i list
        → k < length list.items → region ≡ get_or list.items k region
        → HasPlaces (player_of player) region.leaf
    places_read list k region below its inside that =
        let all = are.leaf i (player_of player) is_player list
        (slice_get_read leaves.regions.items (length leaves.regions.items) i list refl below
        its) in
        let form = subst (λ (r : Region). IsLeafOf (player_of player) r.leaf) (sym that)
        (all k region inside) in
        record {
          lows = let e = form.lows in omega (arith, e);
          highs = let e = form.highs in omega (arith, e);
          sides = let e = form.sides in omega (arith, e);
        }

    pub cuts_read : (list : Vec Cut) → i < length leaves.cuts.items
        → list ≡ get_or leaves.cuts.items i list
        → All (IsCutForm (length (player_of player).vars)) list.items
    cuts_read list below its =
        are.cut i (player_of player) is_player list
        (slice_get_read leaves.cuts.items (length leaves.cuts.items) i list refl below its)

    pub few_read : (list : Vec Cut) → i < length leaves.cuts.items
        → list ≡ get_or leaves.cuts.items i list → length list.items < 2 ^ 32
    few_read list below its =
        subst (λ (v : Vec Cut). length v.items < 2 ^ 32) (sym its) (are.few_cuts i list below)

    pub slots_read : (list : Vec Cut) (k : ℕ) → i < length leaves.cuts.items
        → list ≡ get_or leaves.cuts.items i list
        → all_slots (game_of game) (leaves_of leaves) i k ≡ slots (player_of player)
        (region_at (leaves_of leaves) i k).leaf ++ map (λ cut. Some cut) (map cut_of list.items)
    slots_read list k below its =
        ap₂ (λ (p : PlayerOf) (cuts : List Bound). slots p (region_at (leaves_of leaves) i k).leaf
        ++ map (λ cut. Some cut) cuts) player_read (cut_list_read leaves i list below its)

    pub item_read : (list : Vec Named) (n : ℕ) (item : Named) → i < length leaves.named.items
        → list ≡ get_or leaves.named.items i list → n < length list.items
        → item ≡ get_or list.items n item → IsNamedForm (length (player_of player).vars)
        (named_of item)
    item_read list n item below its inside that =
        let all = are.item i (player_of player) is_player list
        (slice_get_read leaves.named.items (length leaves.named.items) i list refl below its)
        in
        subst (λ (x : Named). IsNamedForm (length (player_of player).vars) (named_of x)) (sym that)
        (all n item inside)

pub named_count_read : (leaves : Leaves) (i : ℕ) (list : Vec Named) → i < length leaves.named.items
    → list ≡ get_or leaves.named.items i list
    → length (named_at (leaves_of leaves) i) ≡ length list.items
named_count_read leaves i list h is =
    ap (λ (v : List NamedOf). length v) (get_or-map (λ (v : Vec Named). map named_of v.items)
    leaves.named.items i list [] h ∙ ap (λ (v : Vec Named). map named_of v.items) (sym is))
    ∙ length-map list.items named_of
