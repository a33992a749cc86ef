use Rattle.std.proofs.Common.{◌≡◌, ◌<◌, ◌≤◌, ℕ, pos, neg_ℤ}
use Rattle.std.specs.List.{All}
use Rattle.zr_base.specs.Steps.{IsNarrow}
use Rattle.zr_simplex.specs.Programs.{numbers}
use Rattle.zr_simplex.proofs.start.write_aim.Given as goal

abbrev pub invariant-loop-j : goal.invariant-loop-j
invariant-loop-j l = record {
  done : (k : ℕ) → k < l.j → numbers l.places k ≡ neg_ℤ (numbers l.aim k);
  zeros : (k : ℕ) → l.j ≤ k → numbers l.places k ≡ pos 0;
  narrow : All IsNarrow l.places;
}
