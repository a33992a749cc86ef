use Rattle.std.proofs.Common.{ℕ, ◌<◌, ◌-◌, take}
use Rattle.zr_game.specs.Games.{game_of}
use Rattle.zr_game.specs.Forms.{IsPlayer}
use Rattle.zr_game.specs.Players.{PlayerOf}
use Rattle.zr_boxes.specs.Paths.{box_of}
use Rattle.zr_box_search.specs.Fates.{HasNoBetter, SpendsUnits}
use Rattle.zr_box_search.specs.OpenBoxes.{HaveUnits}
use Rattle.zr_box_search.proofs.profile.deviation.Given as goal

abbrev pub invariant-loop-i : goal.invariant-loop-i
invariant-loop-i l = record {
  none : (k : ℕ) (player : PlayerOf) → k < l.i → IsPlayer (game_of l.game) k player
      → HasNoBetter player k (box_of l.leaves);
  units : HaveUnits (take l.i (game_of l.game)) (l.purse.branches - l.fn.purse.branches);
  spends : SpendsUnits l.fn.purse l.purse (l.purse.branches - l.fn.purse.branches);
}
