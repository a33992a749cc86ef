use Rattle.std.proofs.Common.{◌+◌, ◌-◌, length}
use Rattle.zr_branch.proofs.Merging.{IsMergedTo}
use Rattle.zr_choices.proofs.multiplier.merged.Given as goal

abbrev pub invariant-merge : goal.invariant-merge
invariant-merge l = IsMergedTo l.left l.right l.i l.k l.list.items

abbrev pub decreases-merge : goal.decreases-merge
decreases-merge l = (length l.left + length l.right) - (l.i + l.k)
