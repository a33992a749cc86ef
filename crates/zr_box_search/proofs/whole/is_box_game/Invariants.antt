use Rattle.std.proofs.Common.{ℕ, ◌<◌}
use Rattle.zr_game.specs.Games.{game_of}
use Rattle.zr_game.specs.Forms.{IsPlayer}
use Rattle.zr_game.specs.Players.{PlayerOf}
use Rattle.zr_box_search.specs.Whole.{IsBoxPlayer}
use Rattle.zr_box_search.proofs.whole.is_box_game.Given as goal

abbrev pub invariant-loop-player : goal.invariant-loop-player
invariant-loop-player l =
    (k : ℕ) (player : PlayerOf) → k < l.player-index → IsPlayer (game_of l.game) k player
    → IsBoxPlayer player
