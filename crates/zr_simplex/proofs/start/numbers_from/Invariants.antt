use Rattle.std.proofs.Common.{◌≡◌, ◌<◌, ◌+◌, ℕ, length, slice_index}
use Rattle.zr_simplex.proofs.start.numbers_from.Given as goal

abbrev pub invariant-loop-i : goal.invariant-loop-i
invariant-loop-i l = record {
  len : length l.made.items ≡ l.i;
  each : (k : ℕ) → k < l.i → slice_index l.made.items k ≡ l.first + k;
}
