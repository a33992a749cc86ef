use Rattle.zr_base.specs.Steps.{IsNarrow}
use Rattle.zr_comp.proofs.unmet.row_amount.Given as goal

abbrev pub invariant-loop-j : goal.invariant-loop-j
invariant-loop-j l = IsNarrow l.sum
