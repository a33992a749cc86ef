use Rattle.std.proofs.Common.{◌≡◌, pos, take, Ok}
use Rattle.zr_base.specs.Steps.{IsNarrow}
use Rattle.zr_base.specs.Sums.{sum_steps}
use Rattle.zr_base.specs.Rows.{products}
use Rattle.zr_base.proofs.row.sum_at.Given as goal

abbrev pub invariant-loop-column : goal.invariant-loop-column
invariant-loop-column l = record {
  sum : sum_steps (pos 0) (products (take l.column-index l.coef) l.point.num) ≡ Ok l.sum;
  narrow : IsNarrow l.sum;
}
