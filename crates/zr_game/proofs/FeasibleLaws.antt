-- A point is tested by three tests.
use Rattle.std.proofs.Common.{◌≡◌, ◌↔◌, arith, refl, ℤ, pos, ◌+ℤ◌, ◌*ℤ◌, ◌<ℤ◌, Bool, ◌&&◌, IsTrue, None, Ok, List, [], ◌∷◌, ◌++◌, length, All}
use Rattle.std.proofs.lemmas.Int.{ints}
use Rattle.zr_base.specs.Sums.{sum_products, sum_steps}
use Rattle.zr_base.specs.Tests.{Tells, first_wide}
use Rattle.zr_base.specs.Points.{PointOf}
use Rattle.zr_base.specs.Rows.{RowHolds, products}
use Rattle.zr_base.proofs.SumSteps.{sum_steps_exact}
use Rattle.zr_base.proofs.Telling.{both_true, true_both}
use Rattle.zr_game.specs.Players.{PairOf, PlayerOf}
use Rattle.zr_game.specs.Feasible.{AreWithin, IsFeasible, PairHolds, slack}
use Rattle.zr_game.specs.FeasibleSteps.{feasible_wide, pair_wide, row_wide, var_wide}

sum_products-append : (xs : List (ℤ × ℤ)) (t : ℤ × ℤ)
    → sum_products (xs ++ t ∷ []) ≡ sum_products xs +ℤ t.0 *ℤ t.1
sum_products-append [] t = omega (arith, ints)
sum_products-append (x ∷ xs) t = let r = sum_products-append xs t in omega (arith, ints, r)

pub slack_is : (pair : PairOf) (x : PointOf) (v : ℤ)
    → sum_steps (pos 0) (products pair.coef x.num ++ (pair.add, x.den) ∷ []) ≡ Ok v
    → v ≡ slack pair x
slack_is pair x v e =
    let s = sum_steps_exact (pos 0) v (products pair.coef x.num ++ (pair.add, x.den) ∷ []) e in
    let a = sum_products-append (products pair.coef x.num) (pair.add, x.den) in
    omega (arith, ints, s, a)

-- three tests together are the test of a point
pub feasible_told : (player : PlayerOf) (x : PointOf) (a b c : Bool) → (pos 0) <ℤ x.den
    → length x.num ≡ length player.vars
    → Tells (Ok a) (AreWithin player.vars x) (first_wide (var_wide x.den) player.vars)
    → Tells (Ok b) (All (RowHolds x) player.rows) (first_wide (row_wide x) player.rows)
    → Tells (Ok c) (All (PairHolds x) player.pairs) (first_wide (pair_wide x) player.pairs)
    → Tells (Ok ((a && b) && c)) (IsFeasible player x) (feasible_wide player x)
feasible_told player x a b c positive len bounds rows pairs = (
  rw (bounds.0, rows.0, pairs.0) refl,
  (
    λ h. let p = both_true (a && b) c h in let q = both_true a b p.0 in record {
      point = positive;
      len = len;
      bounds = bounds.1.0 q.0;
      rows = rows.1.0 q.1;
      pairs = pairs.1.0 p.1;
    },
    λ f. true_both (a && b) c (true_both a b (bounds.1.1 f.bounds) (rows.1.1 f.rows))
        (pairs.1.1 f.pairs),
  ),
)
