use Rattle.std.proofs.Common.{map}
use Rattle.zr_game.specs.Players.{var_of}
use Rattle.zr_source.specs.Names.{var_name}
use Rattle.zr_base.specs.Rows.{row_of}
use Rattle.zr_write.specs.Canonical.{row_data}
use Rattle.zr_write.proofs.Grown.{whole_by}
use Rattle.zr_write.proofs.rows.rows_value.Goals as goal

pub returns : goal.returns
returns c = whole_by (row_data (map var_name (map var_of c.args.vars.now))) row_of c.args.rows.now c.loop-row.row-index c.loop-row.items c.loop-row-test.false c.loop-row.invariant
