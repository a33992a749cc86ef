use Rattle.zr_game.specs.Games.{game_of}
use Rattle.zr_boxes.proofs.Starts.{Started}
use Rattle.zr_boxes.proofs.path.set_roots.Given as goal

abbrev pub invariant-loop-i : goal.invariant-loop-i
invariant-loop-i l = Started (game_of l.game) l.fn.leaves l.leaves l.i
