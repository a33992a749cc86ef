use Rattle.std.proofs.Common.{◌<◌, ℕ, pos, ◌≤ℤ◌}
use Rattle.zr_simplex.specs.Tableaus.{form_of, free_of}
use Rattle.zr_simplex.proofs.choose.column_to_raise.Given as goal

abbrev pub invariant-loop-place : goal.invariant-loop-place
invariant-loop-place l = (k : ℕ) → k < l.place → form_of l.tableau l.value (free_of l.tableau k) ≤ℤ (pos 0)
