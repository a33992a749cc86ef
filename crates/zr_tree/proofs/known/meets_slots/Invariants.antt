use Rattle.std.proofs.Common.{length}
use Rattle.zr_base.proofs.Telling.{Tested}
use Rattle.zr_game.specs.Players.{player_of}
use Rattle.zr_game.specs.Leaves.{leaf_of, slots}
use Rattle.zr_tree.specs.CoverSteps.{SlotMet, slot_wide}
use Rattle.zr_tree.proofs.known.meets_slots.Given as goal

abbrev pub invariant-loop-slot : goal.invariant-loop-slot
invariant-loop-slot l =
    Tested l.slot (λ k slot. SlotMet (player_of l.player) l.point slot)
    (slot_wide (length (player_of l.player).vars) l.point)
    (slots (player_of l.player) (leaf_of l.leaf)) l.all
