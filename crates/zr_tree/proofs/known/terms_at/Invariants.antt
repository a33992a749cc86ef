use Rattle.std.proofs.Common.{◌≡◌, pos, take, Ok}
use Rattle.zr_base.specs.Steps.{IsNarrow}
use Rattle.zr_base.specs.Sums.{sum_steps}
use Rattle.zr_base.specs.Rows.{products}
use Rattle.zr_tree.specs.SlotRows.{signed_terms}
use Rattle.zr_tree.proofs.known.terms_at.Given as goal

abbrev pub invariant-loop-column : goal.invariant-loop-column
invariant-loop-column l = record {
  sum : sum_steps (pos 0) (products (take l.column-index (signed_terms l.negated l.terms)) l.point.num)
      ≡ Ok l.sum;
  narrow : IsNarrow l.sum;
}
