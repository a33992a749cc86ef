use Rattle.std.proofs.Common.{arith, ◌∙◌, length}
use Rattle.std.proofs.lemmas.Result.{err_from_is_err_and}
use Rattle.zr_base.specs.Rows.{RowHolds, row_of}
use Rattle.zr_game.specs.FeasibleSteps.{row_wide}
use Rattle.zr_base.proofs.Telling.{all_tested, more, stops}
use Rattle.zr_game.specs.Forms.{IsRowForm}
use Rattle.zr_game.proofs.Items.{all_told, first_wide-map, item}
use Rattle.zr_game.proofs.substitution.rows_hold.Goals as goal

pub row_holds-requires : goal.row_holds-requires
row_holds-requires c =
    item row_of (IsRowForm (length c.args.point.now.num)) c.args.rows.now c.loop-row.row-index
    c.row-item.result c.requires c.loop-row-test.true c.row-item.is

pub loop-row-preserved : goal.loop-row-preserved
loop-row-preserved c =
    more (λ v row. RowHolds c.args.point.now (row_of row))
    (λ row. row_wide c.args.point.now (row_of row)) c.args.rows.now c.loop-row.row-index
    c.row-item.result c.loop-row-test.true c.row-item.is c.loop-row.all c.loop-row.invariant
    c.row_holds.result c.in_ok-all.field-0 c.row_holds.ensures c.in_ok-all.was

pub returns-in_err-all : goal.returns-in_err-all
returns-in_err-all c =
    let p = err_from_is_err_and c.from_residual.result c.from_residual.ensures.1 in
    let s = stops (λ v row. RowHolds c.args.point.now (row_of row))
    (λ row. row_wide c.args.point.now (row_of row)) c.args.rows.now c.loop-row.row-index
    c.row-item.result c.loop-row-test.true c.row-item.is c.loop-row.all c.loop-row.invariant
    c.row_holds.result _ c.row_holds.ensures c.in_err-all.was in
    rw (p.1, p.2) (first_wide-map row_of (row_wide c.args.point.now) c.args.rows.now ∙ s)

pub returns : goal.returns
returns c =
    all_told row_of (RowHolds c.args.point.now) (row_wide c.args.point.now) c.args.rows.now
    c.loop-row.all (all_tested (λ v row. RowHolds c.args.point.now (row_of row))
    (λ row. row_wide c.args.point.now (row_of row)) c.args.rows.now c.loop-row.row-index
    c.loop-row.all (omega arith) c.loop-row.invariant)
