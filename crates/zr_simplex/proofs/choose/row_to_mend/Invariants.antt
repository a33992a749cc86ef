use Rattle.std.proofs.Common.{◌<◌, ℕ, pos, ◌≤ℤ◌}
use Rattle.zr_simplex.specs.Tableaus.{form_of}
use Rattle.zr_simplex.proofs.choose.row_to_mend.Given as goal

abbrev pub invariant-loop-i : goal.invariant-loop-i
invariant-loop-i l = (k : ℕ) → k < l.i → (pos 0) ≤ℤ form_of l.tableau k l.right
