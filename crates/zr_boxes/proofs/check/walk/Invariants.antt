use Rattle.zr_game.specs.Games.{game_of}
use Rattle.zr_boxes.proofs.Moves.{WalkedTo}
use Rattle.zr_boxes.proofs.check.walk.Given as goal

abbrev pub invariant-loop-k : goal.invariant-loop-k
invariant-loop-k l = WalkedTo (game_of l.game) l.nodes l.k l.fn.path l.path
