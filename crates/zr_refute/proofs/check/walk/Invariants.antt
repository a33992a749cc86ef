use Rattle.zr_game.specs.Games.{game_of}
use Rattle.zr_system.specs.Regions.{leaves_of}
use Rattle.zr_refute.proofs.Moves.{WalkedTo}
use Rattle.zr_refute.proofs.check.walk.Given as goal

abbrev pub invariant-loop-n : goal.invariant-loop-n
invariant-loop-n l =
    WalkedTo (game_of l.game) (leaves_of l.leaves) l.kind l.nodes l.n l.fn.table l.table
