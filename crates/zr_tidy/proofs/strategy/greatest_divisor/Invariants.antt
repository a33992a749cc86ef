use Rattle.std.proofs.Common.{map, take}
use Rattle.zr_mix.specs.Mixtures.{part_of}
use Rattle.zr_tidy.proofs.Greatest.{IsWeightDivisor, first_weight}
use Rattle.zr_tidy.proofs.strategy.greatest_divisor.Given as goal

abbrev pub invariant-loop-part : goal.invariant-loop-part
invariant-loop-part l =
    IsWeightDivisor (first_weight (map part_of l.parts)) (map part_of (take l.part-index l.parts))
    l.shared
