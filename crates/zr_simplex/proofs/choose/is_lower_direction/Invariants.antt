use Rattle.std.proofs.Common.{ℕ, ℤ, ◌≡◌, ◌<◌, pos, slice_index}
use Rattle.zr_basis.specs.Dual.{IsComparison}
use Rattle.zr_simplex.specs.Programs.{program_of}
use Rattle.zr_simplex.specs.Tableaus.{basis_of, form_of}
use Rattle.zr_simplex.proofs.choose.is_lower_direction.Given as goal

abbrev pub invariant-loop-place : goal.invariant-loop-place
invariant-loop-place l =
    (c : ℕ → ℤ) → IsComparison (program_of l.lp) (basis_of l.tableau) (form_of l.tableau) l.row l.column l.last c → (m : ℕ) → m < l.place → c (slice_index l.order m) ≡ pos 0
