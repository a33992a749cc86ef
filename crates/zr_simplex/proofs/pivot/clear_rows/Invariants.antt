use Rattle.std.proofs.Common.{◌≡◌, ◌<◌, ◌≤◌, ℕ, length}
use Rattle.std.specs.List.{All}
use Rattle.zr_base.specs.Steps.{IsNarrow}
use Rattle.zr_simplex.specs.Programs.{numbers}
use Rattle.zr_simplex.specs.RowSteps.{IsCleared, entered}
use Rattle.zr_simplex.specs.Tableaus.{row_in}
use Rattle.zr_simplex.proofs.pivot.clear_rows.Given as goal

abbrev pub invariant-loop-row : goal.invariant-loop-row
invariant-loop-row l = record {
  width : l.width ≡ length l.pivot;
  len : length l.rows ≡ length l.fn.rows;
  narrow : All IsNarrow l.rows;
  done : (k : ℕ) → k < l.row → IsCleared (length l.pivot) l.entry.number (numbers (row_in (length l.pivot) l.fn.rows k) l.entry.place) (numbers l.pivot) (numbers (entered l.entry.place (row_in (length l.pivot) l.fn.rows k))) (numbers (row_in (length l.pivot) l.rows k)) l.entry.own;
  left : (k : ℕ) → l.row ≤ k → row_in (length l.pivot) l.rows k ≡ row_in (length l.pivot) l.fn.rows k;
}
