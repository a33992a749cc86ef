use Rattle.std.proofs.Common.{◌≡◌, neg_ℤ, map, take}
use Rattle.zr_costs.proofs.claim.turned.Given as goal

abbrev pub invariant-loop-number : goal.invariant-loop-number
invariant-loop-number l = l.list.items ≡ map neg_ℤ (take l.number-index l.numbers)
