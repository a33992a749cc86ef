use Rattle.std.proofs.Common.{◌<◌, ℕ, slice_index}
use Rattle.zr_basis.proofs.Picked.{IsLevelAt}
use Rattle.zr_simplex.specs.Programs.{program_of}
use Rattle.zr_simplex.specs.Tableaus.{form_of}
use Rattle.zr_simplex.proofs.choose.is_lower_row.Given as goal

abbrev pub invariant-loop-k : goal.invariant-loop-k
invariant-loop-k l =
    (j : ℕ) → j < l.k → IsLevelAt (program_of l.lp) (λ i. slice_index l.start i) (form_of l.tableau) l.column l.row l.last j
