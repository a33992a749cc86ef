use Rattle.std.proofs.Common.{ℕ, ◌<◌}
use Rattle.zr_game.specs.Games.{game_of}
use Rattle.zr_game.specs.Forms.{IsPlayer}
use Rattle.zr_game.specs.Leaves.{HasPoint}
use Rattle.zr_game.specs.Players.{PlayerOf}
use Rattle.zr_branch.specs.Replies.{CountsPivotsAlone}
use Rattle.zr_box_search.specs.Dues.{box_by, moves_of}
use Rattle.zr_box_search.proofs.empty.empty_node.Given as goal

abbrev pub invariant-loop-i : goal.invariant-loop-i
invariant-loop-i l = record {
  points : (k : ℕ) (player : PlayerOf) → k < l.i → IsPlayer (game_of l.game) k player
      → HasPoint player (box_by (game_of l.game) (moves_of l.paths) k);
  counts : CountsPivotsAlone l.fn.purse l.purse;
}
