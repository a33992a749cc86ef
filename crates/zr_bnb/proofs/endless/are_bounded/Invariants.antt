use Rattle.zr_branch.specs.Replies.{CountsPivotsAlone}
use Rattle.zr_bnb.proofs.endless.are_bounded.Given as goal

abbrev pub invariant-loop-v : goal.invariant-loop-v
invariant-loop-v l = CountsPivotsAlone l.fn.purse l.purse
