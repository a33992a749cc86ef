use Rattle.zr_branch.specs.Replies.{CountsPivotsAlone}
use Rattle.zr_supports.proofs.finding.of_sizes.Given as goal

abbrev pub invariant-loop : goal.invariant-loop
invariant-loop l = CountsPivotsAlone l.initial.purse l.purse
