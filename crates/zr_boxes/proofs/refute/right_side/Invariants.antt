use Rattle.zr_tree.specs.Right.{slot_le}
use Rattle.zr_tree.specs.SlotRows.{rows_at}
use Rattle.zr_boxes.proofs.SumsOnward.{Onward}
use Rattle.zr_boxes.proofs.refute.right_side.Given as goal

abbrev pub invariant-loop-slot : goal.invariant-loop-slot
invariant-loop-slot l =
    Onward (λ t. (t.1, slot_le (rows_at l.player l.leaf) t.0)) l.mult l.slot-index l.sum
