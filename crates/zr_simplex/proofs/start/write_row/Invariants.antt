use Rattle.std.proofs.Common.{◌≡◌, ℕ, take}
use Rattle.std.specs.List.{All}
use Rattle.zr_base.specs.Steps.{IsNarrow}
use Rattle.zr_base.specs.Terms.{coef_at}
use Rattle.zr_simplex.specs.Programs.{numbers}
use Rattle.zr_simplex.proofs.start.write_row.Given as goal

abbrev pub invariant-loop-column : goal.invariant-loop-column
invariant-loop-column l = record {
  numbers : (j : ℕ) → numbers l.places j ≡ coef_at (take l.column-index l.coef) j;
  narrow : All IsNarrow l.places;
}
