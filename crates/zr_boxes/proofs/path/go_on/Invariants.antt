use Rattle.zr_game.specs.Games.{game_of}
use Rattle.zr_boxes.proofs.Moves.{Going}
use Rattle.zr_boxes.proofs.path.go_on.Given as goal

abbrev pub decreases-loop-path : goal.decreases-loop-path
decreases-loop-path l = l.path.depth

abbrev pub invariant-loop-path : goal.invariant-loop-path
invariant-loop-path l = Going (game_of l.game) l.initial.path l.path
