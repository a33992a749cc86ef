use Rattle.std.proofs.Common.{◌≡◌, ◌≢◌, ◌<◌, ℕ}
use Rattle.std.specs.List.{All}
use Rattle.zr_base.specs.Steps.{IsNarrow}
use Rattle.zr_simplex.specs.Programs.{numbers}
use Rattle.zr_simplex.specs.StuckSteps.{IsNumerator}
use Rattle.zr_simplex.specs.Answers.{signed}
use Rattle.zr_simplex.specs.Tableaus.{basis_of, form_of}
use Rattle.zr_simplex.proofs.solution.fill.Given as goal

abbrev pub invariant-loop-i : goal.invariant-loop-i
invariant-loop-i l = record {
  on : (k : ℕ) → k < l.i → IsNumerator (basis_of l.tableau) (form_of l.tableau) l.den (λ k. signed l.negated (form_of l.tableau k l.from)) k (numbers l.places (basis_of l.tableau k));
  off : (j : ℕ) → ((k : ℕ) → k < l.i → j ≢ basis_of l.tableau k) → numbers l.places j ≡ numbers l.initial.places j;
  narrow : All IsNarrow l.places;
}
