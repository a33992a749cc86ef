use Rattle.zr_base.specs.Rows.{RowHolds, row_of}
use Rattle.zr_game.specs.FeasibleSteps.{row_wide}
use Rattle.zr_base.proofs.Telling.{Tested}
use Rattle.zr_game.proofs.substitution.rows_hold.Given as goal

abbrev pub invariant-loop-row : goal.invariant-loop-row
invariant-loop-row l = Tested l.row-index (λ v row. RowHolds l.point (row_of row))
    (λ row. row_wide l.point (row_of row)) l.rows l.all
