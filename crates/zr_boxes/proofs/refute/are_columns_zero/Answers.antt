use Rattle.std.proofs.Common.{rules, sym, FitsSigned}
use Rattle.std.specs.Int.{w128}
use Rattle.std.proofs.lemmas.Int.{to_z-of_z}
use Rattle.zr_tree.specs.SlotRows.{rows_at}
use Rattle.zr_boxes.proofs.Refuting.{one_column}
use Rattle.zr_boxes.proofs.refute.are_columns_zero.Goals as goal

pub loop-column-preserved : goal.loop-column-preserved
loop-column-preserved c =
    let f : FitsSigned w128 c.in_ok-left_side.field-0 = search rules in
    one_column (rows_at c.args.player.now c.args.leaf.now) c.args.mult.now c.loop-column.column
    c.loop-column.all c.loop-column.invariant c.in_ok-left_side.field-0
    (sym c.in_ok-left_side.ensures) c.is_zero.result (simp to_z-of_z at c.is_zero.ensures)
