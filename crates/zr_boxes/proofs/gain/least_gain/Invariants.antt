use Rattle.std.proofs.Common.{length}
use Rattle.zr_game.specs.Players.{player_of}
use Rattle.zr_boxes.specs.Paths.{box_of}
use Rattle.zr_boxes.proofs.GainSums.{GainOnward}
use Rattle.zr_boxes.proofs.gain.least_gain.Given as goal

abbrev pub invariant-loop-v : goal.invariant-loop-v
invariant-loop-v l =
    GainOnward (player_of l.player) l.i (box_of l.leaves) l.point
    (length (player_of l.player).vars) l.v l.gain
