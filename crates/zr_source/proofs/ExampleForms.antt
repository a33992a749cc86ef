-- The leader of the example and its follower keep the rules.
use Rattle.std.proofs.Common.{◌≡◌, ◌≢◌, ℕ, zero, suc, arith, refl, ap, subst, get_or, pos, negsuc, false, Some, None, [], ◌∷◌, codes, AllPairs, IsTrue}
use Rattle.std.proofs.lemmas.Int.{ints}
use Rattle.std.proofs.lemmas.List.Elements.{All-cons, All-nil}
use Rattle.zr_game.specs.Forms.{IsCoefficient, IsCrossForm, IsFromZero, IsNumber, IsOtherForm, IsPairForm, IsPlayer, IsPlayerForm, IsRowForm, IsVarForm}
use Rattle.zr_game.specs.Players.{Name, PairOf, PlayerOf, VarOf}
use Rattle.zr_source.proofs.ExampleLaws.{bounded, unbounded}
use Rattle.zr_source.specs.Examples.{generous, greatest}
use Rattle.zr_source.specs.Names.{AreNames, is_name}
use Rattle.zr_source.specs.SourceForms.{AreFree, IsFollowerCross, IsFollowerForm, IsLeaderForm, IsSource}
use Rattle.zr_source.specs.Sources.{IsLeader, LeaderOf, bases}

two : IsCoefficient (pos 2)
two = ((omega (arith, ints), omega (arith, ints)), λ e. omega (arith, ints))

one : IsCoefficient (pos 1)
one = ((omega (arith, ints), omega (arith, ints)), λ e. omega (arith, ints))

minus_one : IsCoefficient (negsuc 0)
minus_one = ((omega (arith, ints), omega (arith, ints)), λ e. omega (arith, ints))

minus_three : IsCoefficient (negsuc 2)
minus_three = ((omega (arith, ints), omega (arith, ints)), λ e. omega (arith, ints))

nothing : IsNumber (pos 0)
nothing = (omega (arith, ints), omega (arith, ints))

bounded_form : IsVarForm bounded
unfolding bounded
bounded_form = record {
  low = λ z e. let s : pos 0 ≡ z = cc in rw (← s) nothing;
  up = λ z e. let s : pos 2 ≡ z = cc in rw (← s) two.0;
  ordered = λ l e u f. let s : pos 0 ≡ l = cc in let t : pos 2 ≡ u = cc in
      rw (← s, ← t) (omega (arith, ints));
}

unbounded_form : IsVarForm unbounded
unfolding unbounded
unbounded_form = record {
  low = λ z e. let s : pos 0 ≡ z = cc in rw (← s) nothing;
  up = λ z e. absurd cc;
  ordered = λ l e u f. absurd cc;
}

base_form : IsPlayerForm (bases (generous ∷ [])) 0 generous.base
unfolding bounded unbounded
base_form = record {
  some_var = omega arith;
  var_count = omega arith;
  row_count = omega arith;
  pair_count = omega arith;
  cross_count = omega arith;
  other_count = omega arith;
  vars = All-cons IsVarForm bounded (unbounded ∷ []) bounded_form
      (All-cons IsVarForm unbounded [] unbounded_form (All-nil IsVarForm));
  rows = All-nil (IsRowForm 2);
  pairs = All-nil (IsPairForm 2);
  from_zero = All-nil (λ (pair : PairOf). IsFromZero generous.base.vars pair.var);
  cost = (omega arith, omega arith, two, (omega arith, omega arith, minus_three, tt));
  cross = All-nil (IsCrossForm (bases (generous ∷ [])) 0 2);
  cross_ascends = λ k j d below within. absurd (omega arith);
  others = All-nil (IsOtherForm (bases (generous ∷ [])) 0);
  others_ascend = λ k j d below within. absurd (omega arith);
}

greatest_form : IsFollowerForm 2 greatest
greatest_form = record {
  vars_exist = omega arith;
  row_count = omega arith;
  cross_count = omega arith;
  rows = All-cons (IsRowForm 2) (record { coef = (0, negsuc 0) ∷ (1, pos 1) ∷ []; le = pos 0 }) []
      (record {
        coef = (omega arith, omega arith, minus_one, (omega arith, omega arith, one, tt));
        le = nothing;
      }) (All-nil (IsRowForm 2));
  cost = (omega arith, omega arith, minus_one, tt);
  cross = All-nil (IsFollowerCross greatest 2);
  cross_ascends = λ k j d below within. absurd (omega arith);
}

free : AreFree generous.base greatest
unfolding bounded unbounded
free zero var own e = absurd (omega (arith, own.0))
free (suc zero) var own e = let s : unbounded ≡ var = cc in
    subst (λ (w : VarOf). (w.whole ≡ false) × (w.low ≡ Some (pos 0)) × (w.up ≡ None)) s
    (refl, refl, refl)
free (suc (suc v)) var own e = absurd cc

var_names : AreNames (codes "x" ∷ codes "f" ∷ [])
var_names = record {
  rule = All-cons (λ s. IsTrue (is_name s)) (codes "x") (codes "f" ∷ []) refl
      (All-cons (λ s. IsTrue (is_name s)) (codes "f") [] refl (All-nil (λ s. IsTrue (is_name s))));
  differ = differ;
}
  where
    differ : AllPairs (λ s t. s ≢ t) (codes "x" ∷ codes "f" ∷ [])
    differ zero (suc zero) d below within = λ e.
        let first : 120 ≡ 102 = ap (λ (s : Name). get_or s 0 0) e in omega (arith, first)
    differ zero zero d below within = absurd (omega (arith, below))
    differ zero (suc (suc j)) d below within = absurd (omega (arith, within))
    differ (suc i) j d below within = absurd (omega (arith, below, within))

leader_form : IsLeaderForm generous
leader_form = record {
  follower_count = omega arith;
  own_var = omega arith;
  followers = All-cons (IsFollowerForm 2) greatest [] greatest_form (All-nil (IsFollowerForm 2));
  order = (refl, tt);
  free = All-cons (AreFree generous.base) greatest [] free (All-nil (AreFree generous.base));
  names = var_names;
}

players : (i : ℕ) (player : PlayerOf) → IsPlayer (bases (generous ∷ [])) i player
    → IsPlayerForm (bases (generous ∷ [])) i player
players zero player e = let s : generous.base ≡ player = cc in
    subst (IsPlayerForm (bases (generous ∷ [])) 0) s base_form
players (suc i) player e = absurd cc

leaders : (i : ℕ) (leader : LeaderOf) → IsLeader (generous ∷ []) i leader → IsLeaderForm leader
leaders zero leader e = let s : generous ≡ leader = cc in subst IsLeaderForm s leader_form
leaders (suc i) leader e = absurd cc

pub are_source : IsSource (generous ∷ [])
are_source = record {
  bases = record { some_player = omega arith; player_count = omega arith; players = players };
  leaders = leaders;
  names = record {
    rule = All-cons (λ s. IsTrue (is_name s)) (codes "leader") [] refl
        (All-nil (λ s. IsTrue (is_name s)));
    differ = λ k j d below within. absurd (omega (arith, below, within));
  };
}
