use Rattle.zr_game.specs.Games.{game_of}
use Rattle.zr_game.proofs.Checks.{Checked}
use Rattle.zr_check.proofs.LengthWalks.{FitList}
use Rattle.zr_check.proofs.cover_room.are_of_lengths.Given as goal

abbrev pub invariant-loop-i : goal.invariant-loop-i
invariant-loop-i l = Checked l.i (λ i list. FitList (game_of l.game) i list) l.named l.all
