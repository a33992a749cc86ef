use Rattle.zr_refute.proofs.Flagging.{Flagged}
use Rattle.zr_refute.proofs.over.flagged.Given as goal

abbrev pub invariant-loop-k : goal.invariant-loop-k
invariant-loop-k l = Flagged l.leaves l.exact l.k l.list.items
