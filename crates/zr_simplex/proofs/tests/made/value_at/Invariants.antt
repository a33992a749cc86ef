use Rattle.zr_base.specs.Steps.{IsNarrow}
use Rattle.zr_simplex.proofs.tests.made.value_at.Given as goal

abbrev pub invariant-loop-column : goal.invariant-loop-column
invariant-loop-column l = IsNarrow l.sum
