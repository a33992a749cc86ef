use Rattle.std.proofs.Common.{◌≡◌, ◌+◌, ◌^◌}
use Rattle.zr_simplex.specs.Binaries.{number_of}
use Rattle.zr_simplex.proofs.binary.raise.Given as goal

abbrev pub invariant-loop-i : goal.invariant-loop-i
invariant-loop-i l = number_of l.digits + 2 ^ l.i ≡ number_of l.initial.digits + 1
