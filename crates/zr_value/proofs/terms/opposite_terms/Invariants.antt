use Rattle.std.proofs.Common.{◌≡◌, ◌++◌, drop}
use Rattle.zr_value.specs.Terms.{opposite}
use Rattle.zr_value.proofs.terms.opposite_terms.Given as goal

abbrev pub invariant-loop-v : goal.invariant-loop-v
invariant-loop-v l = l.made.items ++ opposite (drop l.v-index l.terms) ≡ opposite l.terms
