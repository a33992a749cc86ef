use Rattle.std.proofs.Common.{◌≡◌, ◌<◌, ◌≤◌, ℕ, ◌-ℤ◌, ◌*ℤ◌}
use Rattle.std.specs.List.{All}
use Rattle.zr_base.specs.Steps.{IsNarrow}
use Rattle.zr_simplex.specs.Programs.{numbers}
use Rattle.zr_simplex.specs.Tableaus.{form_of}
use Rattle.zr_simplex.proofs.append.take_off.Given as goal

abbrev pub invariant-loop-column : goal.invariant-loop-column
invariant-loop-column l = record {
  width : l.width ≡ l.tableau.width;
  done : (j : ℕ) → j < l.column → numbers l.made j ≡ l.by *ℤ numbers l.initial.made j -ℤ l.less *ℤ form_of l.tableau l.row j;
  left : (j : ℕ) → l.column ≤ j → numbers l.made j ≡ numbers l.initial.made j;
  narrow : All IsNarrow l.made;
}
