use Rattle.zr_branch.specs.Replies.{CountsPivotsAlone}
use Rattle.zr_supports.proofs.finding.weights.Given as goal

abbrev pub invariant-loop-sizes : goal.invariant-loop-sizes
invariant-loop-sizes l = CountsPivotsAlone l.initial.purse l.purse
