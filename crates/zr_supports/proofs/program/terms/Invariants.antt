use Rattle.zr_base.specs.Terms.{Ascends}
use Rattle.zr_supports.proofs.program.terms.Given as goal

abbrev pub invariant-loop-j : goal.invariant-loop-j
invariant-loop-j l = Ascends 0 l.j l.list.items
