use Rattle.std.proofs.Common.{◌≡◌, length}
use Rattle.zr_system.proofs.tests.digits.Given as goal

abbrev pub invariant-loop : goal.invariant-loop
invariant-loop l = length l.list.items ≡ l.counter
