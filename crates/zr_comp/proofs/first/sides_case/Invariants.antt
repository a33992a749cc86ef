use Rattle.std.proofs.Common.{ℕ, ◌<◌}
use Rattle.zr_system.specs.Regions.{leaf_count, leaves_of}
use Rattle.zr_comp.specs.Cases.{HasSide}
use Rattle.zr_comp.proofs.first.sides_case.Given as goal

abbrev pub invariant-loop-i : goal.invariant-loop-i
invariant-loop-i l =
    (j k : ℕ) → j < l.i → k < leaf_count (leaves_of l.leaves) j → HasSide l.path j k
