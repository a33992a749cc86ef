use Rattle.std.proofs.Common.{ℕ, ◌<◌}
use Rattle.zr_boxes.specs.Paths.{box_of}
use Rattle.zr_box_search.specs.OpenBoxes.{HasOneValue}
use Rattle.zr_box_search.proofs.split.own_split.Given as goal

abbrev pub invariant-loop-v : goal.invariant-loop-v
invariant-loop-v l = (w : ℕ) → w < l.v → HasOneValue (box_of l.leaves l.i) w
