-- The leaders' game of a number keeps the rules of sources.
use Rattle.std.proofs.Common.{◌≡◌, ◌≢◌, ℕ, zero, suc, ◌+◌, ◌<◌, ◌≤◌, ◌==◌, arith, refl, sym, ap, subst, ◌∙◌, pos, negsuc, false, Some, None, [], ◌∷◌, map, length, get_or, slice_get, codes, All, AllPairs, IsTrue}
use Rattle.std.proofs.lemmas.Bool.{eqb-false}
use Rattle.std.proofs.lemmas.Int.{ints}
use Rattle.std.proofs.lemmas.List.Elements.{All-cons, All-nil}
use Rattle.std.proofs.lemmas.List.FromFn.{length-map-range_with_len}
use Rattle.std.proofs.lemmas.Simd.{map-map}
use Rattle.std.specs.List.{range_with_len}
use Rattle.zr_game.specs.Forms.{HasVar, IsCoefficient, IsCrossForm, IsFromZero, IsGame, IsOtherForm, IsPairForm, IsPlayer, IsPlayerForm, IsRowForm, IsVarForm}
use Rattle.zr_game.specs.Players.{GameOf, Name, PairOf, PlayerOf, VarOf}
use Rattle.zr_source.specs.Names.{AreNames, is_name, leader_name}
use Rattle.zr_source.specs.SourceForms.{AreFree, IsFollowerCross, IsFollowerForm, IsLeaderForm, IsSource}
use Rattle.zr_source.specs.Sources.{LeaderOf, SourceOf, bases}
use Rattle.zr_gen.proofs.Crossings.{IsBefore, are_terms_of, few_terms, later_player, one_term, term_forms}
use Rattle.zr_gen.proofs.DrawnNames.{numbered_names}
use Rattle.zr_gen.proofs.Lists.{all_flat, from_range, length_flat, pairs_flat}
use Rattle.zr_gen.proofs.Numbers.{negative, number, positive}
use Rattle.zr_gen.specs.Following.{answer_gain, answer_var, bound, follower, lead, leader_gain, leader_with_follower, leaders_of_number, own_var, price, rivalry, rivalry_with}

own_form : (b : ℕ) → b ≤ 1000 → IsVarForm (own_var b)
own_form b h = record {
  low = λ z e. let s : pos 0 ≡ z = cc in rw (← s) (number 0 (omega arith));
  up = λ z e. let s : pos b ≡ z = cc in rw (← s) (number b h);
  ordered = λ l e u f. let s : pos 0 ≡ l = cc in let t : pos b ≡ u = cc in
      rw (← s, ← t) (omega (arith, ints));
}

answer_form : IsVarForm answer_var
answer_form = record {
  low = λ z e. let s : pos 0 ≡ z = cc in rw (← s) (number 0 (omega arith));
  up = λ z e. absurd cc;
  ordered = λ l e u f. absurd cc;
}

var_names : AreNames (codes "x" ∷ codes "f" ∷ [])
var_names = record {
  rule = All-cons (λ s. IsTrue (is_name s)) (codes "x") (codes "f" ∷ []) refl
      (All-cons (λ s. IsTrue (is_name s)) (codes "f") [] refl (All-nil (λ s. IsTrue (is_name s))));
  differ = differ;
}
  where
    differ : AllPairs (λ s t. s ≢ t) (codes "x" ∷ codes "f" ∷ [])
    differ zero (suc zero) d below within = λ e.
        let first : 120 ≡ 102 = ap (λ (s : Name). get_or s 0 0) e in omega (arith, first)
    differ zero zero d below within = absurd (omega (arith, below))
    differ zero (suc (suc j)) d below within = absurd (omega (arith, within))
    differ (suc i) j d below within = absurd (omega (arith, below, within))

module _ (players n : ℕ) (some_player : 1 ≤ players) (few_players : players ≤ 16) where
  abbrev source : SourceOf
  source = leaders_of_number players n

  base : ℕ → PlayerOf
  base i = (leader_with_follower players n i).base

  bases_are : bases source ≡ map base (range_with_len 0 players)
  unfolding base
  bases_are = map-map (λ (l : LeaderOf). l.base) (leader_with_follower players n)
      (range_with_len 0 players)

  game_len : length (bases source) ≡ players
  game_len = ap length bases_are ∙ length-map-range_with_len base 0 players

  player_at : (i : ℕ) (player : PlayerOf) → IsPlayer (bases source) i player
      → (i < players) × (base i ≡ player)
  player_at i player is =
      let at = from_range base 0 players i player
      (ap (λ (ps : GameOf). slice_get ps i) (sym bases_are) ∙ is) in
      let e : 0 + i ≡ i = omega arith in (at.0, ap base (sym e) ∙ at.1)

  vars_len : (i : ℕ) → length (base i).vars ≡ 2
  unfolding base
  vars_len i = refl

  has_answer : (j : ℕ) → HasVar (bases source) j 1
  has_answer j player is =
      let at = player_at j player is in
      subst (λ (p : PlayerOf). 1 < length p.vars) at.1 (omega (arith, vars_len j))

  module _ (i : ℕ) where
    few_rivalries : length (base i).cross ≤ 65536
    unfolding base
    few_rivalries =
        let few = length_flat (rivalry_with players n i) 0 players 1
        (λ j. few_terms 1 j (rivalry players n i j) (j == i)) in
        omega (arith, few)

    rivalry_forms : All (IsCrossForm (bases source) i 2) (base i).cross
    unfolding base
    rivalry_forms = all_flat (IsCrossForm (bases source) i 2) (rivalry_with players n i) 0 players
        (λ j l m. term_forms 1 j (rivalry players n i j) (j == i) (bases source) i 2 (omega arith)
        (omega (arith, game_len, m)) (eqb-false j i) (has_answer j) (omega arith))

    rivalries_order : AllPairs IsBefore (base i).cross
    unfolding base
    rivalries_order = pairs_flat IsBefore (rivalry_with players n i) 0 players
        (λ j l m. one_term 1 j (rivalry players n i j) (j == i))
        (λ a b l h m x d u y e v. later_player 1 a b h _ _
        (are_terms_of 1 a (rivalry players n i a) (a == i) x d u)
        (are_terms_of 1 b (rivalry players n i b) (b == i) y e v))

    base_form : IsPlayerForm (bases source) i (base i)
    unfolding base
    base_form = record {
      some_var = omega arith;
      var_count = omega arith;
      row_count = omega arith;
      pair_count = omega arith;
      cross_count = few_rivalries;
      other_count = omega arith;
      vars = All-cons IsVarForm (own_var (bound players n i)) (answer_var ∷ [])
          (own_form (bound players n i) (omega arith))
          (All-cons IsVarForm answer_var [] answer_form (All-nil IsVarForm));
      rows = All-nil (IsRowForm 2);
      pairs = All-nil (IsPairForm 2);
      from_zero = All-nil (λ (pair : PairOf). IsFromZero (base i).vars pair.var);
      cost = (
        omega arith,
        omega arith,
        positive (price players n i) (omega arith) (omega arith),
        (
          omega arith,
          omega arith,
          negative (leader_gain players n i) (omega arith) (omega arith),
          tt,
        ),
      );
      cross = rivalry_forms;
      cross_ascends = rivalries_order;
      others = All-nil (IsOtherForm (bases source) i);
      others_ascend = λ k j d below within. absurd (omega (arith, below, within));
    }

    minus_one : IsCoefficient (negsuc 0)
    minus_one = negative 1 (omega arith) (omega arith)

    follower_form : IsFollowerForm 2 (follower players n i)
    follower_form = record {
      vars_exist = omega arith;
      row_count = omega arith;
      cross_count = omega arith;
      rows = All-cons (IsRowForm 2)
          (record { coef = (0, negsuc 0) ∷ (1, pos 1) ∷ []; le = pos (lead players n i) }) []
          (record {
            coef = (
              omega arith,
              omega arith,
              minus_one,
              (omega arith, omega arith, positive 1 (omega arith) (omega arith), tt),
            );
            le = number (lead players n i) (omega arith);
          }) (All-nil (IsRowForm 2));
      cost = (
        omega arith,
        omega arith,
        negative (answer_gain players n i) (omega arith) (omega arith),
        tt,
      );
      cross = All-nil (IsFollowerCross (follower players n i) 2);
      cross_ascends = λ k j d below within. absurd (omega (arith, below, within));
    }

    free : AreFree (base i) (follower players n i)
    unfolding base
    free zero var own e = absurd (omega (arith, own.0))
    free (suc zero) var own e = let s : answer_var ≡ var = cc in
        subst (λ (w : VarOf). (w.whole ≡ false) × (w.low ≡ Some (pos 0)) × (w.up ≡ None)) s
        (refl, refl, refl)
    free (suc (suc v)) var own e = absurd cc

    leader_form : IsLeaderForm (leader_with_follower players n i)
    unfolding base
    leader_form = record {
      follower_count = omega arith;
      own_var = omega arith;
      followers = All-cons (IsFollowerForm 2) (follower players n i) [] follower_form
          (All-nil (IsFollowerForm 2));
      order = (refl, tt);
      free = All-cons (AreFree (base i)) (follower players n i) [] free
          (All-nil (AreFree (base i)));
      names = var_names;
    }

  game_form : IsGame (bases source)
  game_form = record {
    some_player = omega (arith, game_len);
    player_count = omega (arith, game_len);
    players = λ i player is.
        let at = player_at i player is in
        subst (IsPlayerForm (bases source) i) at.1 (base_form i);
  }

  pub are_source : IsSource source
  are_source = record {
    bases = game_form;
    leaders = λ i leader is.
        let at = from_range (leader_with_follower players n) 0 players i leader is in
        let e : 0 + i ≡ i = omega arith in
        subst IsLeaderForm (ap (leader_with_follower players n) (sym e) ∙ at.1) (leader_form i);
    names = subst AreNames
        (sym (map-map leader_name (leader_with_follower players n) (range_with_len 0 players)))
        (numbered_names 112 players refl (omega arith));
  }

pub same_leaders : (p q m n : ℕ) → p ≡ q → m ≡ n → leaders_of_number p m ≡ leaders_of_number q n
same_leaders p q m n e f = rw (e, f) refl
