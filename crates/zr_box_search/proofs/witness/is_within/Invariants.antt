use Rattle.std.proofs.Common.{ℕ, ◌<◌, ◌≤ℤ◌, IfSome}
use Rattle.zr_base.specs.Points.{num_of}
use Rattle.zr_game.specs.Leaves.{leaf_of}
use Rattle.zr_box_search.proofs.witness.is_within.Given as goal

abbrev pub invariant-loop-v : goal.invariant-loop-v
invariant-loop-v l =
    ((v : ℕ) → v < l.v → IfSome ((leaf_of l.leaf).low v) (λ low. low ≤ℤ num_of l.point v))
    × ((v : ℕ) → v < l.v → IfSome ((leaf_of l.leaf).high v) (λ high. num_of l.point v ≤ℤ high))
