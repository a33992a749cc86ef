use Rattle.std.proofs.Common.{IsSome}
use Rattle.zr_game.specs.Leaves.{slot_of}
use Rattle.zr_game.proofs.Checks.{Checked}
use Rattle.zr_tree.specs.SlotRows.{rows_at}
use Rattle.zr_boxes.proofs.refute.are_present.Given as goal

abbrev pub invariant-loop-slot : goal.invariant-loop-slot
invariant-loop-slot l =
    Checked l.slot-index (λ k t. IsSome (slot_of (rows_at l.player l.leaf) t.0)) l.mult l.all
