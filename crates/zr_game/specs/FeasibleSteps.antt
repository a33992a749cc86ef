-- The steps by which a point is tested, each of which may be too wide.
use Rattle.std.specs.Prelude.{ℤ, pos, Option, Some, None, [], ◌∷◌, ◌++◌}
use Rattle.zr_base.specs.declared.step.Wide.{Wide}
use Rattle.zr_base.specs.Steps.{cross_of}
use Rattle.zr_base.specs.Sums.{sum_steps}
use Rattle.zr_base.specs.Tests.{wide_in, or_else, first_wide}
use Rattle.zr_base.specs.Points.{PointOf}
use Rattle.zr_base.specs.Rows.{RowOf, products, holds_of}
use Rattle.zr_game.specs.Players.{PlayerOf, PairOf, VarOf}

-- the step of a bound at the denominator d
abbrev pub bound_wide : ℤ → Option ℤ → Option Wide
bound_wide d None = None
bound_wide d (Some bound) = wide_in (cross_of (bound, d) (pos 0, pos 0))

-- those of a variable's lower bound, and then of its upper one
abbrev pub var_wide : ℤ → VarOf → Option Wide
var_wide d var = or_else (bound_wide d var.low) (bound_wide d var.up)

-- the steps of a row: its sum from the left, and then its right side
abbrev pub row_wide : PointOf → RowOf → Option Wide
row_wide x row = wide_in (holds_of x row)

-- the steps of a pair: the sum of its terms from the left, and its number last
abbrev pub pair_wide : PointOf → PairOf → Option Wide
pair_wide x pair = wide_in (sum_steps (pos 0) (products pair.coef x.num ++ (pair.add, x.den) ∷ []))

-- the first wide step of the bounds, the rows and the pairs, in this order
abbrev pub feasible_wide : PlayerOf → PointOf → Option Wide
feasible_wide player x =
    or_else (first_wide (var_wide x.den) player.vars)
    (or_else (first_wide (row_wide x) player.rows) (first_wide (pair_wide x) player.pairs))
