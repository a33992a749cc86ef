use Rattle.std.proofs.Common.{◌≡◌, take, slice_index}
use Rattle.zr_branch.specs.Merged.{renamed}
use Rattle.zr_branch.proofs.multipliers.renamed.Given as goal

abbrev pub invariant-loop-k : goal.invariant-loop-k
invariant-loop-k l = l.list.items ≡ renamed (λ r. slice_index l.names r) (take l.k-index l.mult)
