use Rattle.std.proofs.Common.{◌≡◌, ◌<◌, ℕ, None, Some, true, slice_get, slice_index_or, map}
use Rattle.zr_game.specs.Players.{VarOf, var_of}
use Rattle.zr_cover.specs.Splits.{AreOneValue}
use Rattle.zr_cover.proofs.split.first_unfixed.Given as goal

abbrev pub invariant-loop-v : goal.invariant-loop-v
invariant-loop-v l =
    (w : ℕ) (x : VarOf) → w < l.v → slice_get (map var_of l.vars) w ≡ Some x → x.whole ≡ true
    → AreOneValue (slice_index_or l.low w None) (slice_index_or l.high w None)
