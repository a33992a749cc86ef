use Rattle.std.proofs.Common.{◌≡◌, ℤ, None, Some, true, slice_index_or}
use Rattle.zr_game.proofs.Checks.{Checked}
use Rattle.zr_tree.proofs.known.are_fixed.Given as goal

abbrev pub invariant-loop-v : goal.invariant-loop-v
invariant-loop-v l =
    Checked l.v (λ v var. var.whole ≡ true → (value : ℤ)
    × (slice_index_or l.low v None ≡ Some value)
    × (slice_index_or l.high v None ≡ Some value)) l.vars l.all
