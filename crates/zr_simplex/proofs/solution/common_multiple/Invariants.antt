use Rattle.zr_base.specs.Steps.{IsNarrow}
use Rattle.zr_simplex.specs.StuckSteps.{IsLeastCommonMultiple}
use Rattle.zr_simplex.specs.Tableaus.{basis_of, form_of}
use Rattle.zr_simplex.proofs.solution.common_multiple.Given as goal

abbrev pub invariant-loop-i : goal.invariant-loop-i
invariant-loop-i l = record {
  narrow : IsNarrow l.den;
  multiple : IsLeastCommonMultiple (basis_of l.tableau) (form_of l.tableau) l.i l.den;
}
