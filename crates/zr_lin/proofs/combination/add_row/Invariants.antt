use Rattle.std.proofs.Common.{◌≡◌, ℕ, ◌<◌, pos, length, take, slice_index_or, Ok}
use Rattle.zr_base.specs.Sums.{sum_step}
use Rattle.zr_base.specs.Terms.{coef_at}
use Rattle.zr_lin.proofs.combination.add_row.Given as goal

abbrev pub invariant-loop-column : goal.invariant-loop-column
invariant-loop-column l =
    (j : ℕ) → j < length l.initial.left → sum_step (slice_index_or l.initial.left j (pos 0)) (l.by, coef_at (take l.column-index l.coef) j) ≡ Ok (slice_index_or l.left j (pos 0))
