use Rattle.std.proofs.Common.{take}
use Rattle.zr_mix.proofs.Shares.{MeanOf}
use Rattle.zr_mix.proofs.mean.mean_at.Given as goal

abbrev pub invariant-loop-part : goal.invariant-loop-part
invariant-loop-part l = MeanOf l.fn.total l.v (take l.part-index l.parts) l.sum
