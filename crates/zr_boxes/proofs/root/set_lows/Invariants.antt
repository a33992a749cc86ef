use Rattle.std.proofs.Common.{◌≡◌, ℕ, ◌<◌, None, map, slice_index_or}
use Rattle.zr_game.specs.Players.{var_of}
use Rattle.zr_game.specs.Leaves.{low_of}
use Rattle.zr_boxes.proofs.root.set_lows.Given as goal

abbrev pub invariant-loop-v : goal.invariant-loop-v
invariant-loop-v l = (w : ℕ) → w < l.v → slice_index_or l.low w None ≡ low_of (map var_of l.vars) w
