use Rattle.zr_game.specs.Games.{game_of}
use Rattle.zr_box_search.specs.Dues.{AreLeaves, moves_of}
use Rattle.zr_box_search.proofs.boxes.leaves_by.Given as goal

abbrev pub invariant-loop-k : goal.invariant-loop-k
invariant-loop-k l = AreLeaves (game_of l.game) (moves_of l.paths) l.k l.leaves.items
