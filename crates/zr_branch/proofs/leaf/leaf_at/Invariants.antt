use Rattle.std.proofs.Common.{◌≡◌, take}
use Rattle.zr_game.specs.Players.{player_of}
use Rattle.zr_game.specs.Leaves.{IsLeafOf, leaf_of}
use Rattle.zr_asked.specs.Paths.{branch}
use Rattle.zr_branch.proofs.leaf.leaf_at.Given as goal

abbrev pub invariant-loop-step : goal.invariant-loop-step
invariant-loop-step l = record {
  lengths : IsLeafOf (player_of l.player) l.leaf;
  leaf : leaf_of l.leaf ≡ branch (player_of l.player) (take l.step-index l.path);
}
