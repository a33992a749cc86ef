use Rattle.std.proofs.Common.{◌≡◌, map, take, length}
use Rattle.zr_lin.specs.Ineqs.{ineq_of}
use Rattle.zr_choices.specs.Parted.{parted}
use Rattle.zr_choices.specs.Programs.{free_in}
use Rattle.zr_choices.proofs.row.parted_rows.Given as goal

abbrev pub invariant-loop-row : goal.invariant-loop-row
invariant-loop-row l =
    map ineq_of l.list.items ≡ map (parted (free_in l.order) (length l.order))
    (map ineq_of (take l.row-index l.rows))
