use Rattle.std.proofs.Common.{◌≡◌, ◌*◌}
use Rattle.zr_base.specs.Sums.{sum_to}
use Rattle.zr_game.specs.Players.{player_of}
use Rattle.zr_boxes.specs.Gains.{var_gain}
use Rattle.zr_boxes.specs.Paths.{box_of}
use Rattle.zr_box_search.specs.Sizes.{IsUpTo, part_size}
use Rattle.zr_box_search.proofs.gain.least_gain.Given as goal

abbrev pub invariant-loop-v : goal.invariant-loop-v
invariant-loop-v l = record {
  sum : l.gain.total ≡ sum_to l.v (var_gain (player_of l.player) l.i (box_of l.leaves) l.point);
  size : IsUpTo (l.v * part_size) l.gain.total;
}
