use Rattle.std.proofs.Common.{ℕ, ◌<◌, length}
use Rattle.zr_game.specs.Games.{game_of}
use Rattle.zr_game.specs.Forms.{IsPlayer}
use Rattle.zr_game.specs.Players.{PlayerOf}
use Rattle.zr_boxes.specs.Paths.{box_of}
use Rattle.zr_box_search.specs.OpenBoxes.{HasOneValue}
use Rattle.zr_box_search.proofs.split.first_split.Given as goal

abbrev pub invariant-loop-i : goal.invariant-loop-i
invariant-loop-i l =
    (k : ℕ) (player : PlayerOf) → k < l.i → IsPlayer (game_of l.game) k player → (v : ℕ)
    → v < length player.vars → HasOneValue (box_of l.leaves k) v
