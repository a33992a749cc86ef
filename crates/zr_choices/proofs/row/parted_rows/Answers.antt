use Rattle.std.proofs.Common.{length}
use Rattle.zr_lin.specs.Ineqs.{IsIneq, ineq_of}
use Rattle.zr_game.proofs.Items.{item}
use Rattle.zr_choices.proofs.row.parted_rows.Goals as goal

pub parted-requires-clause-row : goal.parted-requires-clause-row
parted-requires-clause-row c =
    item ineq_of (IsIneq (length c.args.order.now)) c.args.rows.now c.loop-row.row-index
    c.row-item.result c.requires.rows c.loop-row-test.true c.row-item.is
