use Rattle.std.proofs.Common.{◌≡◌, ◌++◌, filter}
use Rattle.zr_value.specs.Terms.{is_term}
use Rattle.zr_value.proofs.terms.without_zeros.Given as goal

abbrev pub invariant-loop-v : goal.invariant-loop-v
invariant-loop-v l = l.kept.items ++ filter is_term l.v-iterator ≡ filter is_term l.fn.all.entries
