use Rattle.std.proofs.Common.{◌≡◌, ◌<◌, ◌+◌, ℕ, length}
use Rattle.zr_simplex.specs.declared.columns.Column.TheVariants.{Basic, Free}
use Rattle.zr_simplex.specs.Tableaus.{column_at}
use Rattle.zr_simplex.proofs.start.first_columns.Given as goal

abbrev pub invariant-loop-place : goal.invariant-loop-place
invariant-loop-place l = record {
  len : length l.made.items ≡ l.place;
  free : (k : ℕ) → k < l.place → column_at l.made.items k ≡ Free k;
}

abbrev pub invariant-loop-row : goal.invariant-loop-row
invariant-loop-row l = record {
  len : length l.made.items ≡ l.columns + l.row;
  free : (k : ℕ) → k < l.columns → column_at l.made.items k ≡ Free k;
  basic : (i : ℕ) → i < l.row → column_at l.made.items (l.columns + i) ≡ Basic i;
}
