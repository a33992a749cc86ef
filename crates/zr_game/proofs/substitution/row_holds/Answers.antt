use Rattle.std.proofs.Common.{length, ap}
use Rattle.zr_base.specs.Rows.{RowHolds, holds_of, row_of}
use Rattle.zr_base.specs.Tests.{wide_in}
use Rattle.zr_base.proofs.Telling.{tells_by}
use Rattle.zr_game.specs.Forms.{IsCoefficient}
use Rattle.zr_game.proofs.TermColumns.{columns_exist}
use Rattle.zr_game.proofs.substitution.row_holds.Goals as goal

pub holds-requires : goal.holds-requires
holds-requires c = columns_exist IsCoefficient 0 (length c.args.point.now.num)
    c.args.row.now.coef.items c.requires.coef

pub returns : goal.returns
returns c =
    tells_by (holds_of c.args.point.now (row_of c.args.row.now)) c.holds.result
    (RowHolds c.args.point.now (row_of c.args.row.now)) c.holds.ensures.exact
    (ap wide_in c.holds.ensures.steps)
