use Rattle.std.proofs.Common.{ℕ, ◌<◌, IsTrue}
use Rattle.zr_game.specs.Games.{game_of}
use Rattle.zr_system.specs.Choices.{IsSlotDecided}
use Rattle.zr_system.specs.Regions.{is_present, leaves_of}
use Rattle.zr_comp.proofs.first.slots_case.Given as goal

abbrev pub invariant-loop-s : goal.invariant-loop-s
invariant-loop-s l =
    (t : ℕ) → t < l.s → IsTrue (is_present (game_of l.game) (leaves_of l.leaves) l.i l.k t)
    → IsSlotDecided l.path l.i l.k t
