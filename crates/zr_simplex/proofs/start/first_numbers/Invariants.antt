use Rattle.std.proofs.Common.{◌≡◌, ◌<◌, ◌≤◌, ◌+◌, ◌*◌, ℕ, pos, length}
use Rattle.std.specs.List.{All}
use Rattle.zr_base.specs.Steps.{IsNarrow}
use Rattle.zr_simplex.specs.Programs.{numbers, program_of}
use Rattle.zr_simplex.specs.RowSteps.{IsFirst}
use Rattle.zr_simplex.specs.Tableaus.{row_in}
use Rattle.zr_simplex.proofs.start.first_numbers.Given as goal

abbrev pub invariant-loop-row : goal.invariant-loop-row
invariant-loop-row l = record {
  len : length l.all.items ≡ (length l.lp.rows.items + 1) * l.width;
  narrow : All IsNarrow l.all.items;
  done : (k : ℕ) → k < l.row → IsFirst l.lp.columns ((program_of l.lp).coef k) ((program_of l.lp).le k) (numbers (row_in l.width l.all.items k));
  zeros : (k : ℕ) → l.row ≤ k → k ≤ length l.lp.rows.items → All (λ z. z ≡ pos 0) (row_in l.width l.all.items k);
}
