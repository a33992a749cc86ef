use Rattle.std.proofs.Common.{◌≡◌, ◌<◌, ℕ, slice_index}
use Rattle.std.specs.List.{All}
use Rattle.zr_base.specs.Steps.{IsNarrow}
use Rattle.zr_simplex.specs.Programs.{numbers}
use Rattle.zr_simplex.specs.RowSteps.{IsGreatest}
use Rattle.zr_simplex.proofs.append.condense.Given as goal

abbrev pub invariant-loop-place : goal.invariant-loop-place
invariant-loop-place l = record {
  off : (k : ℕ) → k < l.place → numbers l.places k ≡ numbers l.made (slice_index l.free k);
  narrow : All IsNarrow l.places;
  greatest : IsGreatest l.place (numbers l.places) l.common;
}
