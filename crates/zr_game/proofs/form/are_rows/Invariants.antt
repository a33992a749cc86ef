use Rattle.zr_base.specs.Rows.{row_of}
use Rattle.zr_game.specs.Forms.{IsRowForm}
use Rattle.zr_game.proofs.Checks.{Checked}
use Rattle.zr_game.proofs.form.are_rows.Given as goal

abbrev pub invariant-loop-row : goal.invariant-loop-row
invariant-loop-row l = Checked l.row-index (λ v row. IsRowForm l.columns (row_of row)) l.rows l.all
