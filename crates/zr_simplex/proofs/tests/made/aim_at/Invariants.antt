use Rattle.zr_base.specs.Steps.{IsNarrow}
use Rattle.zr_simplex.proofs.tests.made.aim_at.Given as goal

abbrev pub invariant-loop-j : goal.invariant-loop-j
invariant-loop-j l = IsNarrow l.sum
