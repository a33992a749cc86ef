use Rattle.std.proofs.Common.{◌≡◌, ◌<◌, ◌≤◌, ℕ, Ok}
use Rattle.std.specs.List.{All}
use Rattle.zr_base.specs.Steps.{IsNarrow, cross_of}
use Rattle.zr_simplex.specs.Programs.{numbers}
use Rattle.zr_simplex.specs.RowSteps.{IsGreatest}
use Rattle.zr_simplex.proofs.row.subtract.Given as goal

abbrev pub invariant-loop-place : goal.invariant-loop-place
invariant-loop-place l = record {
  done : (j : ℕ) → j < l.place → cross_of (l.by, numbers l.initial.row j) (l.less, numbers l.pivot j) ≡ Ok (numbers l.row j);
  left : (j : ℕ) → l.place ≤ j → numbers l.row j ≡ numbers l.initial.row j;
  greatest : IsGreatest l.place (numbers l.row) l.common;
  narrow : All IsNarrow l.row;
}
