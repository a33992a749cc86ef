use Rattle.std.proofs.Common.{◌≡◌, int_div, map, take}
use Rattle.zr_tidy.proofs.point.numbers_without.Given as goal

abbrev pub invariant-loop-v : goal.invariant-loop-v
invariant-loop-v l = l.list.items ≡ map (λ n. int_div n l.by) (take l.v l.point.num)
