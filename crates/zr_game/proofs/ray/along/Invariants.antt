use Rattle.std.proofs.Common.{◌≡◌, pos, take, Ok}
use Rattle.zr_base.specs.Steps.{IsNarrow}
use Rattle.zr_base.specs.Sums.{sum_steps}
use Rattle.zr_base.specs.Rows.{products}
use Rattle.zr_game.proofs.ray.along.Given as goal

abbrev pub invariant-loop-column : goal.invariant-loop-column
invariant-loop-column l = record {
  sum : sum_steps (pos 0) (products (take l.column-index l.coef) l.dir) ≡ Ok l.sum;
  narrow : IsNarrow l.sum;
}
