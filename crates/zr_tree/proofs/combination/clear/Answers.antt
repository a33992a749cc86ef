use Rattle.std.proofs.Common.{arith, pos}
use Rattle.zr_tree.proofs.Lookups.{beyond}
use Rattle.zr_tree.proofs.combination.clear.Goals as goal

pub returns : goal.returns
returns c j = beyond c.loop-place.sums (pos 0) j (λ h. c.loop-place.invariant j (omega (arith, h)))
