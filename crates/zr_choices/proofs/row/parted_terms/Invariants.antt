use Rattle.std.proofs.Common.{◌≡◌, take}
use Rattle.zr_choices.specs.Parted.{parted_terms}
use Rattle.zr_choices.specs.Programs.{free_in}
use Rattle.zr_choices.proofs.row.parted_terms.Given as goal

abbrev pub invariant-loop-column : goal.invariant-loop-column
invariant-loop-column l = l.list.items ≡ parted_terms (free_in l.order)
    (take l.column-index l.coef)
