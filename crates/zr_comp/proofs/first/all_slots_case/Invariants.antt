use Rattle.std.proofs.Common.{ℕ, ◌<◌}
use Rattle.zr_game.specs.Games.{game_of}
use Rattle.zr_system.specs.Choices.{AreSlotsDecided, IsUsed}
use Rattle.zr_system.specs.Regions.{leaf_count, leaves_of}
use Rattle.zr_comp.proofs.first.all_slots_case.Given as goal

abbrev pub invariant-loop-i : goal.invariant-loop-i
invariant-loop-i l =
    (j k : ℕ) → j < l.i → k < leaf_count (leaves_of l.leaves) j → IsUsed l.path j k
    → AreSlotsDecided (game_of l.game) (leaves_of l.leaves) l.path j k
