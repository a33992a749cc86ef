use Rattle.zr_tree.specs.SlotRows.{rows_at}
use Rattle.zr_boxes.proofs.Refuting.{Columns}
use Rattle.zr_boxes.proofs.refute.are_columns_zero.Given as goal

abbrev pub invariant-loop-column : goal.invariant-loop-column
invariant-loop-column l = Columns (rows_at l.player l.leaf) l.mult l.column l.all
