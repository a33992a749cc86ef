use Rattle.std.proofs.Common.{◌≡◌, take}
use Rattle.zr_refute.proofs.over.numerators.Given as goal

abbrev pub invariant-loop-j : goal.invariant-loop-j
invariant-loop-j l = l.list.items ≡ take l.j l.point.num
