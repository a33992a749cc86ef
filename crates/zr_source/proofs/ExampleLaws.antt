-- The follower of the example takes the greatest value.
use Rattle.std.proofs.Common.{◌≡◌, ℕ, zero, suc, arith, refl, subst, ℤ, pos, ◌≤ℤ◌, false, Some, None, [], ◌∷◌, codes, All}
use Rattle.std.proofs.lemmas.Int.{ints}
use Rattle.zr_base.specs.Fractions.{IsAtMost, IsSame, whole}
use Rattle.zr_base.specs.Points.{PointOf, num_of, value_of}
use Rattle.zr_base.specs.Rows.{RowHolds}
use Rattle.zr_game.specs.Feasible.{AreWithin, IsWithin}
use Rattle.zr_game.specs.Players.{VarOf}
use Rattle.zr_source.specs.Examples.{chosen, generous, greatest}
use Rattle.zr_source.specs.Optimal.{IsChoice, IsLeaderFeasible, IsOptimal, follower_cost}
use Rattle.zr_source.specs.Sources.{IsOwn}

row_at_two : All (RowHolds (chosen (pos 2) (pos 2))) greatest.rows
row_at_two zero d h = omega (arith, ints)
row_at_two (suc k) d h = absurd (omega arith)

least_at_two : (y : PointOf) → IsChoice greatest (chosen (pos 2) (pos 2)) y
    → IsAtMost (follower_cost greatest (chosen (pos 2) (pos 2))) (follower_cost greatest y)
least_at_two y is =
    let x = (is.others 0 (λ o. let a = o.0 in omega arith)).cross in
    let row = is.rows 0 (record { coef = []; le = pos 0 }) (omega arith) in
    omega (arith, ints, x, row)

unfoldable pub bounded : VarOf
bounded = record { name = codes "x"; whole = false; low = Some (pos 0); up = Some (pos 2) }

unfoldable pub unbounded : VarOf
unbounded = record { name = codes "f"; whole = false; low = Some (pos 0); up = None }

in_bounded : IsWithin bounded (pos 2) (pos 1)
unfolding bounded
in_bounded = record {
  low = omega (arith, ints);
  high = omega (arith, ints);
  whole = λ w. absurd cc;
}

in_unbounded : IsWithin unbounded (pos 2) (pos 1)
unfolding unbounded
in_unbounded = record { low = omega (arith, ints); high = tt; whole = λ w. absurd cc }

within_two : AreWithin generous.base.vars (chosen (pos 2) (pos 2))
unfolding bounded unbounded
within_two zero var e =
    let s : bounded ≡ var = cc in
    subst (λ (v : VarOf). IsWithin v (pos 2) (pos 1)) s in_bounded
within_two (suc zero) var e =
    let s : unbounded ≡ var = cc in
    subst (λ (v : VarOf). IsWithin v (pos 2) (pos 1)) s in_unbounded
within_two (suc (suc v)) var e = absurd cc

pub at_two : IsLeaderFeasible generous (chosen (pos 2) (pos 2))
at_two = record {
  base = record {
    point = omega (arith, ints);
    len = refl;
    bounds = within_two;
    rows = λ k d h. absurd (omega arith);
    pairs = λ k d h. absurd (omega arith);
  };
  answers = answers;
}
  where
    answers : All (λ f. IsOptimal f (chosen (pos 2) (pos 2))) (greatest ∷ [])
    answers zero d h = record { point = omega (arith, ints); rows = row_at_two; least = least_at_two }
    answers (suc k) d h = absurd (omega arith)

alike : (z : ℤ) → IsSame (whole z) (whole z)
alike z = record { left = omega (arith, ints); right = omega (arith, ints); cross = refl }

more : IsChoice greatest (chosen (pos 2) (pos 1)) (chosen (pos 2) (pos 2))
more = record {
  point = omega (arith, ints);
  len = refl;
  others = others;
  low = low;
  rows = row_at_two;
}
  where
    others : (v : ℕ) → (IsOwn greatest v → ⊥)
        → IsSame (value_of (chosen (pos 2) (pos 2)) v) (value_of (chosen (pos 2) (pos 1)) v)
    others zero o = alike (pos 2)
    others (suc zero) o = absurd (o (omega arith, omega arith))
    others (suc (suc v)) o = alike (pos 0)

    low : (v : ℕ) → IsOwn greatest v → (pos 0) ≤ℤ num_of (chosen (pos 2) (pos 2)) v
    low zero o = omega (arith, ints)
    low (suc zero) o = omega (arith, ints)
    low (suc (suc v)) o = omega (arith, ints)

pub not_at_one : IsLeaderFeasible generous (chosen (pos 2) (pos 1)) → ⊥
not_at_one h =
    let most = (h.answers 0 greatest (omega arith)).least (chosen (pos 2) (pos 2)) more in
    omega (arith, ints, most)
