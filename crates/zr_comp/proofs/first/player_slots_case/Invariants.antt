use Rattle.std.proofs.Common.{ℕ, ◌<◌}
use Rattle.zr_game.specs.Games.{game_of}
use Rattle.zr_system.specs.Choices.{AreSlotsDecided, IsUsed}
use Rattle.zr_system.specs.Regions.{leaves_of}
use Rattle.zr_comp.proofs.first.player_slots_case.Given as goal

abbrev pub invariant-loop-k : goal.invariant-loop-k
invariant-loop-k l =
    (m : ℕ) → m < l.k → IsUsed l.path l.i m
    → AreSlotsDecided (game_of l.game) (leaves_of l.leaves) l.path l.i m
