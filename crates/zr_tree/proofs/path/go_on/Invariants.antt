use Rattle.zr_game.specs.Players.{player_of}
use Rattle.zr_tree.proofs.Moves.{Going}
use Rattle.zr_tree.proofs.path.go_on.Given as goal

abbrev pub decreases-loop-path : goal.decreases-loop-path
decreases-loop-path l = l.path.depth

abbrev pub invariant-loop-path : goal.invariant-loop-path
invariant-loop-path l = Going (player_of l.player) l.initial.path l.path
