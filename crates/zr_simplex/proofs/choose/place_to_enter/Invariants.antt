use Rattle.zr_basis.proofs.Least.{IsBestSoFar}
use Rattle.zr_basis.specs.Dual.{IsDirectionBelow}
use Rattle.std.proofs.Common.{◌<◌, pos, ◌<ℤ◌}
use Rattle.zr_simplex.specs.Programs.{program_of}
use Rattle.zr_simplex.specs.Tableaus.{basis_of, form_of, free_of, order_of}
use Rattle.zr_simplex.proofs.choose.place_to_enter.Given as goal

abbrev pub invariant-loop-place : goal.invariant-loop-place
invariant-loop-place l =
    let p = program_of l.lp in
    let form = form_of l.tableau in
    let free = free_of l.tableau in
    IsBestSoFar (λ k. (k < p.columns) × (form l.row (free k) <ℤ (pos 0))) (λ i k. IsDirectionBelow p (order_of l.order) (basis_of l.tableau) form l.row (free i) (free k)) l.place l.best
