-- The knapsack game of a number keeps the rules of sources.
use Rattle.std.proofs.Common.{◌≡◌, ℕ, ◌+◌, ◌*◌, ◌<◌, ◌≤◌, ◌==◌, arith, refl, sym, ap, subst, ◌∙◌, pos, [], map, length, get_or, slice_get, All, AllPairs}
use Rattle.std.proofs.lemmas.Bool.{eqb-false}
use Rattle.std.proofs.lemmas.Int.{ints}
use Rattle.std.proofs.lemmas.List.Elements.{All-cons, All-nil}
use Rattle.std.proofs.lemmas.List.FromFn.{length-map-range_with_len, length-range_with_len}
use Rattle.std.proofs.lemmas.List.Sums.{sum_by-le}
use Rattle.std.proofs.lemmas.Simd.{map-map}
use Rattle.std.specs.List.{range_with_len}
use Rattle.zr_game.specs.Forms.{HasVar, IsCoefficient, IsCrossForm, IsFromZero, IsGame, IsOtherForm, IsPairForm, IsPlayer, IsPlayerForm, IsRowForm, IsVarForm}
use Rattle.zr_game.specs.Players.{GameOf, PairOf, PlayerOf}
use Rattle.zr_game.specs.declared.player.CrossTerm.{CrossTerm}
use Rattle.zr_source.specs.Names.{AreNames, leader_name, var_name}
use Rattle.zr_source.specs.SourceForms.{AreFree, IsFollowerForm, IsLeaderForm, IsSource}
use Rattle.zr_source.specs.Sources.{LeaderOf, SourceOf, bases}
use Rattle.zr_gen.proofs.Crossings.{IsBefore, are_terms_of, few_terms, later_own, later_player, one_term, term_forms}
use Rattle.zr_gen.proofs.DrawnNames.{numbered_names}
use Rattle.zr_gen.proofs.Lists.{all_flat, all_range, ascend_range, from_range, length_flat, pairs_flat}
use Rattle.zr_gen.proofs.Numbers.{negative, number, positive}
use Rattle.zr_gen.specs.Packing.{capacity, gain, item_meetings, item_var, knapsack_of, meeting, meeting_with, meetings, packer, weight, weight_terms}

module _ (players items n : ℕ) (some_player : 1 ≤ players) (few_players : players ≤ 16)
    (some_item : 1 ≤ items) (few_items : items ≤ 64) where
  abbrev source : SourceOf
  source = knapsack_of players items n

  base : ℕ → PlayerOf
  base i = (packer players items n i).base

  bases_are : bases source ≡ map base (range_with_len 0 players)
  unfolding base
  bases_are = map-map (λ (l : LeaderOf). l.base) (packer players items n) (range_with_len 0 players)

  game_len : length (bases source) ≡ players
  game_len = ap length bases_are ∙ length-map-range_with_len base 0 players

  player_at : (i : ℕ) (player : PlayerOf) → IsPlayer (bases source) i player
      → (i < players) × (base i ≡ player)
  player_at i player is =
      let at = from_range base 0 players i player
      (ap (λ (ps : GameOf). slice_get ps i) (sym bases_are) ∙ is) in
      let e : 0 + i ≡ i = omega arith in (at.0, ap base (sym e) ∙ at.1)

  vars_len : (i : ℕ) → length (base i).vars ≡ items
  unfolding base
  vars_len i = length-map-range_with_len item_var 0 items

  has_item : (j k : ℕ) → k < items → HasVar (bases source) j k
  has_item j k h player is =
      let at = player_at j player is in
      subst (λ (p : PlayerOf). k < length p.vars) at.1 (omega (arith, vars_len j, h))

  item_form : (k : ℕ) → IsVarForm (item_var k)
  item_form k = record {
    low = λ z e. let s : pos 0 ≡ z = cc in rw (← s) (number 0 (omega arith));
    up = λ z e. let s : pos 1 ≡ z = cc in rw (← s) (number 1 (omega arith));
    ordered = λ l e u f. let s : pos 0 ≡ l = cc in let t : pos 1 ≡ u = cc in
        rw (← s, ← t) (omega (arith, ints));
  }

  weights_small : (i : ℕ) → capacity players items n i ≤ 1000
  weights_small i =
      let sum = sum_by-le (weight players items n i) 20 (range_with_len 0 items)
      (λ k d h. omega arith) in
      omega (arith, sum, length-range_with_len 0 items)

  module _ (i : ℕ) where
    abbrev IsForm : CrossTerm → Type 0
    IsForm = IsCrossForm (bases source) i items

    few_of_item : (k : ℕ) → length (item_meetings players items n i k) ≤ players * 1
    few_of_item k = length_flat (meeting_with players items n i k) 0 players 1
        (λ j. few_terms k j (meeting players items n i j k) (j == i))

    few_meetings : length (meetings players items n i) ≤ 65536
    few_meetings =
        let few = length_flat (item_meetings players items n i) 0 items 16
        (λ k. let m = few_of_item k in omega (arith, m)) in
        omega (arith, few)

    item_forms : (k : ℕ) → k < items → All IsForm (item_meetings players items n i k)
    item_forms k h = all_flat IsForm (meeting_with players items n i k) 0 players (λ j l m.
        term_forms k j (meeting players items n i j k) (j == i) (bases source) i items h
        (omega (arith, game_len, m)) (eqb-false j i) (has_item j k h) (omega arith))

    meeting_forms : All IsForm (meetings players items n i)
    meeting_forms = all_flat IsForm (item_meetings players items n i) 0 items
        (λ k l h. item_forms k (omega (arith, h)))

    of_item : (k : ℕ) → All (λ t. t.own ≡ k) (item_meetings players items n i k)
    of_item k = all_flat (λ t. t.own ≡ k) (meeting_with players items n i k) 0 players
        (λ j l m x d h. (are_terms_of k j (meeting players items n i j k) (j == i) x d h).own)

    item_order : (k : ℕ) → AllPairs IsBefore (item_meetings players items n i k)
    item_order k = pairs_flat IsBefore (meeting_with players items n i k) 0 players
        (λ j l m. one_term k j (meeting players items n i j k) (j == i))
        (λ a b l h m x d u y e v. later_player k a b h _ _
        (are_terms_of k a (meeting players items n i a k) (a == i) x d u)
        (are_terms_of k b (meeting players items n i b k) (b == i) y e v))

    meetings_order : AllPairs IsBefore (meetings players items n i)
    meetings_order = pairs_flat IsBefore (item_meetings players items n i) 0 items
        (λ k l h. item_order k)
        (λ a b l h m x d u y e v. later_own a b h
        (get_or (item_meetings players items n i a) x d) (get_or (item_meetings players items n i b) y e)
        (of_item a x d u) (of_item b y e v))

    base_form : IsPlayerForm (bases source) i (base i)
    unfolding base
    base_form =
        let count = length-map-range_with_len item_var 0 items in record {
          some_var = omega (arith, count);
          var_count = omega (arith, count);
          row_count = omega arith;
          pair_count = omega arith;
          cross_count = few_meetings;
          other_count = omega arith;
          vars = all_range IsVarForm item_var items (λ k h. item_form k);
          rows = subst (λ (c : ℕ). All (IsRowForm c) (base i).rows) (sym count)
              (All-cons (IsRowForm items)
              (record { coef = weight_terms players items n i; le = pos (capacity players items n i) }) []
              (record {
                coef = ascend_range IsCoefficient (λ k. pos (weight players items n i k)) 0 items items
                    (omega arith) (λ k h. positive (weight players items n i k) (omega arith) (omega arith));
                le = number (capacity players items n i) (weights_small i);
              }) (All-nil (IsRowForm items)));
          pairs = All-nil (IsPairForm (length (base i).vars));
          from_zero = All-nil (λ (pair : PairOf). IsFromZero (base i).vars pair.var);
          cost = ascend_range IsCoefficient _ 0 items (length (base i).vars)
              (omega (arith, count))
              (λ k h. negative (gain players items n i k) (omega arith) (omega arith));
          cross = subst (λ (c : ℕ). All (IsCrossForm (bases source) i c) (meetings players items n i))
              (sym count) meeting_forms;
          cross_ascends = meetings_order;
          others = All-nil (IsOtherForm (bases source) i);
          others_ascend = λ k j d below within. absurd (omega (arith, below, within));
        }

  game_form : IsGame (bases source)
  game_form = record {
    some_player = omega (arith, game_len);
    player_count = omega (arith, game_len);
    players = λ i player is.
        let at = player_at i player is in
        subst (IsPlayerForm (bases source) i) at.1 (base_form i);
  }

  leader_form : (i : ℕ) → IsLeaderForm (packer players items n i)
  leader_form i =
      let count = length-map-range_with_len item_var 0 items in record {
        follower_count = omega arith;
        own_var = omega (arith, count);
        followers = All-nil (IsFollowerForm (length (packer players items n i).base.vars));
        order = tt;
        free = All-nil (AreFree (packer players items n i).base);
        names = subst AreNames (sym (map-map var_name item_var (range_with_len 0 items)))
            (numbered_names 120 items refl few_items);
      }

  pub are_source : IsSource source
  are_source = record {
    bases = game_form;
    leaders = λ i leader is.
        let at = from_range (packer players items n) 0 players i leader is in
        let e : 0 + i ≡ i = omega arith in
        subst IsLeaderForm (ap (packer players items n) (sym e) ∙ at.1) (leader_form i);
    names = subst AreNames
        (sym (map-map leader_name (packer players items n) (range_with_len 0 players)))
        (numbered_names 112 players refl (omega arith));
  }

pub same_knapsack : (p q i j m n : ℕ) → p ≡ q → i ≡ j → m ≡ n
    → knapsack_of p i m ≡ knapsack_of q j n
same_knapsack p q i j m n e f g = rw (e, f, g) refl
