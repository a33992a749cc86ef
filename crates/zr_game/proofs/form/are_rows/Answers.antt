use Rattle.std.proofs.Common.{arith}
use Rattle.zr_base.specs.Rows.{row_of}
use Rattle.zr_game.specs.Forms.{IsRowForm}
use Rattle.zr_game.proofs.Checks.{all_checked, all_mapped, more_checked, none_checked}
use Rattle.zr_game.proofs.form.are_rows.Goals as goal

pub loop-row-init : goal.loop-row-init
loop-row-init c = none_checked (λ v row. IsRowForm c.args.columns (row_of row)) c.args.rows.now

pub loop-row-preserved : goal.loop-row-preserved
loop-row-preserved c =
    more_checked (λ v row. IsRowForm c.args.columns (row_of row)) c.args.rows.now
    c.loop-row.row-index c.row-item.result c.loop-row-test.true c.row-item.is c.loop-row.all
    c.loop-row.invariant c.is_row-all.result c.is_row-all.ensures

pub returns : goal.returns
returns c =
    all_mapped row_of (IsRowForm c.args.columns) c.args.rows.now c.loop-row.all
    (all_checked (λ v row. IsRowForm c.args.columns (row_of row)) c.args.rows.now
    c.loop-row.row-index c.loop-row.all (omega arith) (omega arith) c.loop-row.invariant)
