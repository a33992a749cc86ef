use Rattle.std.proofs.Common.{ℕ, ◌<◌}
use Rattle.zr_base.specs.Fractions.{IsSame}
use Rattle.zr_base.specs.Points.{value_of}
use Rattle.zr_tidy.proofs.point.order.Given as goal

abbrev pub invariant-loop-v : goal.invariant-loop-v
invariant-loop-v l = (u : ℕ) → u < l.v → IsSame (value_of l.left u) (value_of l.right u)
