use Rattle.std.proofs.Common.{ℕ, slice_index}
use Rattle.zr_basis.specs.Primal.{IsRowBelow}
use Rattle.zr_basis.proofs.Least.{IsBestSoFar}
use Rattle.zr_basis.proofs.Picked.{IsAbove}
use Rattle.zr_simplex.specs.Programs.{program_of}
use Rattle.zr_simplex.specs.Tableaus.{form_of}
use Rattle.zr_simplex.proofs.choose.row_to_leave.Given as goal

abbrev pub invariant-loop-i : goal.invariant-loop-i
invariant-loop-i l =
    let p = program_of l.lp in
    let start : ℕ → ℕ = λ i. slice_index l.start i in
    let form = form_of l.tableau in
    IsBestSoFar (IsAbove p start form l.column) (IsRowBelow p start form l.column) l.i l.best
