use Rattle.std.proofs.Common.{IsSome}
use Rattle.zr_game.specs.Players.{player_of}
use Rattle.zr_game.specs.Leaves.{leaf_of, slot_of, slots}
use Rattle.zr_game.proofs.Checks.{Checked}
use Rattle.zr_tree.proofs.slot.are_present.Given as goal

abbrev pub invariant-loop-slot : goal.invariant-loop-slot
invariant-loop-slot l = Checked l.slot-index (λ k t. IsSome (slot_of (slots (player_of l.player) (leaf_of l.leaf)) t.0)) l.mult l.all
