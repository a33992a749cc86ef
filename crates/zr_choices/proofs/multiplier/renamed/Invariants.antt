use Rattle.std.proofs.Common.{◌≡◌, ◌++◌, drop, length, slice_index}
use Rattle.zr_branch.specs.Merged.{renamed}
use Rattle.zr_choices.specs.Merging.{first_terms}
use Rattle.zr_choices.proofs.multiplier.renamed.Given as goal

abbrev pub invariant-loop-k : goal.invariant-loop-k
invariant-loop-k l =
    l.list.items ++ renamed (slice_index l.names)
    (first_terms (length l.names) (drop l.k-index l.mult))
    ≡ renamed (slice_index l.names) (first_terms (length l.names) l.mult)
