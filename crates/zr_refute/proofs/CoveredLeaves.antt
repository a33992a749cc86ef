-- The leaves of right covers hold all of the players' points.
use Rattle.std.proofs.Common.{◌≡◌, ℕ, zero, suc, ◌<◌, arith, refl, sym, ap, subst, ◌∙◌, true, Option, Some, List, [], ◌∷◌, ◌++◌, append-nil, length, map, slice_get, get_or}
use Rattle.std.proofs.lemmas.List.{length-map}
use Rattle.std.proofs.lemmas.Option.{get_or_from_slice_get, slice_get-get_or, slice_get_within}
use Rattle.zr_base.specs.Points.{PointOf}
use Rattle.zr_game.specs.Forms.{IsGame, IsPlayer}
use Rattle.zr_game.specs.Leaves.{Bound, BoundHolds, MeetsLeaf, root_leaf, slot_of, slots}
use Rattle.zr_game.specs.Named.{NamedOf}
use Rattle.zr_game.specs.Players.{GameOf, PlayerOf}
use Rattle.zr_tree.specs.Covers.{CoverLeaf, HoldPoints, cover_leaves}
use Rattle.zr_tree.specs.Trees.{TreeOf}
use Rattle.zr_tree.proofs.CoverLaws.{cover_holds}
use Rattle.zr_system.specs.Covers.{AreCovers, IsCover, LiesIn}
use Rattle.zr_system.specs.Regions.{RegionOf, all_slots, is_exact, leaf_count, no_player, no_region, player_at, region_at}
use Rattle.zr_refute.specs.Covered.{AreRightCovers, cover_regions, covered, region_with, regions_with}

-- a player's leaves are those of its cover
regions_at : (game : GameOf) (trees : List TreeOf) (i : ℕ) (player : PlayerOf) (tree : TreeOf)
    → slice_get game i ≡ Some player → slice_get trees i ≡ Some tree
    → get_or (regions_with game trees) i [] ≡ cover_regions player tree
regions_at [] trees i player tree p t = absurd cc
regions_at (q ∷ qs) [] i player tree p t = absurd cc
regions_at (q ∷ qs) (u ∷ us) zero player tree p t =
    let a : q ≡ player = cc in
    let b : u ≡ tree = cc in
    ap (λ (x : PlayerOf). cover_regions x u) a ∙ ap (λ (x : TreeOf). cover_regions player x) b
regions_at (q ∷ qs) (u ∷ us) (suc i) player tree p t = regions_at qs us i player tree p t

abbrev no_bounds : List Bound
no_bounds = []

no_cuts : (game : GameOf) (i : ℕ) → get_or (map (λ (player : PlayerOf). no_bounds) game) i no_bounds ≡ no_bounds
no_cuts [] i = refl
no_cuts (q ∷ qs) zero = refl
no_cuts (q ∷ qs) (suc i) = no_cuts qs i

-- the leaf at a place of a cover
leaf_at : (items : List CoverLeaf) (k : ℕ) (item : CoverLeaf) → slice_get items k ≡ Some item
    → get_or (map region_with items) k no_region ≡ region_with item
leaf_at [] k item e = absurd cc
leaf_at (x ∷ xs) zero item e = let a : x ≡ item = cc in ap region_with a
leaf_at (x ∷ xs) (suc k) item e = leaf_at xs k item e

module _ (game : GameOf) (form : IsGame game) (trees : List TreeOf) (named : List (List NamedOf))
    (right : AreRightCovers game trees named) where
  module _ (i : ℕ) (player : PlayerOf) (is : IsPlayer game i player) where
    abbrev tree : TreeOf
    tree = (right.covers i player is).0

    abbrev items : List CoverLeaf
    items = cover_leaves player (root_leaf player) tree

    here : player_at game i ≡ player
    here = get_or_from_slice_get game i player no_player is

    holds : HoldPoints player items
    holds =
        let g = form.players i player is in
        cover_holds player g.rows g.pairs g.from_zero tree (right.covers i player is).2

    regions : get_or (covered game trees named).regions i [] ≡ cover_regions player tree
    regions = regions_at game trees i player tree is (right.covers i player is).1

    count : leaf_count (covered game trees named) i ≡ length items
    count = ap length regions ∙ length-map items region_with

    module _ (k : ℕ) (item : CoverLeaf) (found : slice_get items k ≡ Some item) where
      region : region_at (covered game trees named) i k ≡ region_with item
      region =
          ap (λ (rs : List RegionOf). get_or rs k no_region) regions ∙ leaf_at items k item found

      slots_are : all_slots game (covered game trees named) i k ≡ slots player item.leaf
      slots_are =
          ap (λ (p : PlayerOf). slots p (region_at (covered game trees named) i k).leaf ++ map
          (λ cut. Some cut) (get_or (covered game trees named).cuts i [])) here
          ∙ ap (λ (r : RegionOf). slots player r.leaf ++ map (λ cut. Some cut)
          (get_or (covered game trees named).cuts i [])) region
          ∙ ap (λ (cs : List Bound). slots player item.leaf ++ map (λ cut. Some cut) cs)
          (no_cuts game i) ∙ append-nil (slots player item.leaf)

      lies : (x : PointOf) → MeetsLeaf player item.leaf x
          → LiesIn game (covered game trees named) i k x
      lies x m = record {
        point = m.point;
        len = m.len ∙ ap (λ (p : PlayerOf). length p.vars) (sym here);
        rows = λ s row e. subst (λ (p : PlayerOf). BoundHolds p x row) (sym here) (m.rows s row
            (ap (λ (ss : List (Option Bound)). slot_of ss s) (sym slots_are) ∙ e));
      }

      meets : (x : PointOf) → LiesIn game (covered game trees named) i k x
          → MeetsLeaf player item.leaf x
      meets x l = record {
        point = l.point;
        len = l.len ∙ ap (λ (p : PlayerOf). length p.vars) here;
        rows = λ s row e. subst (λ (p : PlayerOf). BoundHolds p x row) here (l.rows s row
            (ap (λ (ss : List (Option Bound)). slot_of ss s) slots_are ∙ e));
      }

      exact : is_exact (covered game trees named) i k ≡ item.exact
      exact = ap (λ (r : RegionOf). r.exact) region

    any : CoverLeaf
    any = record { leaf = root_leaf player; exact = true }

    found_at : (k : ℕ) → k < leaf_count (covered game trees named) i
        → slice_get items k ≡ Some (get_or items k any)
    found_at k h = slice_get-get_or items k any (omega (arith, h, count))

    is_cover : IsCover game (covered game trees named) i player
    is_cover = record {
      covers = λ x f. let c = holds.covers x f in (
        c.0,
        (let b = slice_get_within items c.0 c.1 c.2 in omega (arith, b, count)),
        lies c.0 c.1 c.2 x c.3,
      );
      settled = λ k h e x l. holds.settled k (get_or items k any) (found_at k h)
          (sym (exact k (get_or items k any) (found_at k h)) ∙ e) x
          (meets k (get_or items k any) (found_at k h) x l);
      has_point = λ k h e. let p = holds.has_point k (get_or items k any) (found_at k h)
          (sym (exact k (get_or items k any) (found_at k h)) ∙ e) in
          (p.0, lies k (get_or items k any) (found_at k h) p.0 p.1);
      named = right.named_items i player is;
    }

  pub are_covers : AreCovers game (covered game trees named)
  are_covers i player is = is_cover i player is
