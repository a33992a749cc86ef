use Rattle.std.proofs.Common.{pos, length}
use Rattle.zr_base.proofs.TermLaws.{entry_from}
use Rattle.zr_simplex.proofs.tests.made.value_at.Goals as goal

pub num-requires : goal.num-requires
num-requires c =
    (entry_from 0 (length c.args.point.now.num) c.args.coef.now c.loop-column.column-index (0, pos 0) c.requires c.loop-column-test.true).1
