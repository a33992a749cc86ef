use Rattle.zr_game.specs.Games.{game_of}
use Rattle.zr_system.specs.Regions.{leaves_of}
use Rattle.zr_refute.proofs.Going.{Going}
use Rattle.zr_refute.proofs.path.go_on.Given as goal

abbrev pub invariant-loop-path : goal.invariant-loop-path
invariant-loop-path l = Going (game_of l.game) (leaves_of l.leaves) l.initial.path l.path

abbrev pub decreases-loop-path : goal.decreases-loop-path
decreases-loop-path l = l.path.depth
