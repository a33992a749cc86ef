use Rattle.std.proofs.Common.{◌≡◌, ◌<◌, ◌≤◌, ℕ, ◌*ℤ◌}
use Rattle.std.specs.List.{All}
use Rattle.zr_base.specs.Steps.{IsNarrow}
use Rattle.zr_simplex.specs.Programs.{numbers}
use Rattle.zr_simplex.proofs.row.divide.Given as goal

abbrev pub invariant-loop-number : goal.invariant-loop-number
invariant-loop-number l = record {
  done : (j : ℕ) → j < l.number-index → numbers l.row j *ℤ l.by ≡ numbers l.initial.row j;
  left : (j : ℕ) → l.number-index ≤ j → numbers l.row j ≡ numbers l.initial.row j;
  narrow : All IsNarrow l.row;
}
