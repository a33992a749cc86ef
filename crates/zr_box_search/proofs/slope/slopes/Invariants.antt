use Rattle.std.proofs.Common.{◌≡◌, ℕ, ◌<◌, All, length}
use Rattle.zr_base.specs.Steps.{IsNarrow}
use Rattle.zr_game.specs.Players.{player_of}
use Rattle.zr_simplex.specs.Programs.{numbers}
use Rattle.zr_boxes.specs.Gains.{slope_range}
use Rattle.zr_boxes.specs.Paths.{box_of}
use Rattle.zr_box_search.proofs.slope.slopes.Given as goal

abbrev pub invariant-loop-v : goal.invariant-loop-v
invariant-loop-v l = record {
  len : length l.aim.items ≡ l.v;
  values : (w : ℕ) → w < l.v
      → numbers l.aim.items w ≡ (slope_range (player_of l.player) (box_of l.leaves) w).low;
  narrow : All IsNarrow l.aim.items;
}
