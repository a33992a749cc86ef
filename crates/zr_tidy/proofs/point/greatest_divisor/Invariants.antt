use Rattle.zr_tidy.proofs.Greatest.{IsDivisorTo}
use Rattle.zr_tidy.proofs.point.greatest_divisor.Given as goal

abbrev pub invariant-loop-v : goal.invariant-loop-v
invariant-loop-v l = IsDivisorTo l.v l.shared l.point
