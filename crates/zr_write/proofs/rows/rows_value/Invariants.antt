use Rattle.std.proofs.Common.{map}
use Rattle.zr_game.specs.Players.{var_of}
use Rattle.zr_source.specs.Names.{var_name}
use Rattle.zr_base.specs.Rows.{row_of}
use Rattle.zr_write.specs.Canonical.{row_data}
use Rattle.zr_write.proofs.Grown.{Stands}
use Rattle.zr_write.proofs.rows.rows_value.Given as goal

abbrev pub invariant-loop-row : goal.invariant-loop-row
invariant-loop-row l = Stands (λ row. row_data (map var_name (map var_of l.vars)) (row_of row)) l.rows l.row-index l.items.items
