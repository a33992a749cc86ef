use Rattle.zr_base.specs.Rows.{row_of}
use Rattle.zr_base.proofs.Telling.{Tested}
use Rattle.zr_game.specs.Rays.{KeepsRow}
use Rattle.zr_game.specs.RaySteps.{along_wide}
use Rattle.zr_game.proofs.ray.rows_keep.Given as goal

abbrev pub invariant-loop-row : goal.invariant-loop-row
invariant-loop-row l =
    Tested l.row-index (λ v row. KeepsRow l.dir (row_of row))
    (λ row. along_wide l.dir (row_of row).coef) l.rows l.all
