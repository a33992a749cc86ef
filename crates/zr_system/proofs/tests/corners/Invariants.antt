use Rattle.std.proofs.Common.{◌≡◌, length}
use Rattle.std.specs.List.{All}
use Rattle.zr_game.specs.Forms.{IsPlayer}
use Rattle.zr_game.specs.Games.{game_of}
use Rattle.zr_game.specs.Leaves.{IsLeafOf}
use Rattle.zr_game.specs.Players.{PlayerOf}
use Rattle.zr_system.proofs.tests.corners.Given as goal

abbrev pub invariant-loop-number : goal.invariant-loop-number
invariant-loop-number l = record {
  leaves : (player : PlayerOf) → IsPlayer (game_of l.game) l.i player
      → All (λ region. IsLeafOf player region.leaf) l.list.items;
  few : length l.list.items ≡ l.number;
}
