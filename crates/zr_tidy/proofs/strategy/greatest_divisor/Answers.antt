use Rattle.std.proofs.Common.{◌<◌, rules, arith, sym, subst, pos, ◌<ℤ◌, length, map, take, get_or, FitsSigned}
use Rattle.std.specs.Int.{w128}
use Rattle.std.proofs.lemmas.Int.{ints, to_z-of_z}
use Rattle.std.proofs.lemmas.List.{length-map, take_all}
use Rattle.zr_game.specs.Profiles.{Strategy}
use Rattle.zr_mix.specs.Mixtures.{part_of}
use Rattle.zr_tidy.proofs.Greatest.{IsWeightDivisor, first_weight, weight_all, weight_more, weight_none}
use Rattle.zr_tidy.proofs.Kept.{first_is, first_more}
use Rattle.zr_tidy.proofs.strategy.greatest_divisor.Goals as goal

pub loop-part-init : goal.loop-part-init
loop-part-init c =
    let xs = c.args.parts.now in
    let r = c.index-parts-0.result in
    let w : FitsSigned w128 (get_or xs 0 r).weight = search rules in
    let h = c.requires.weights 0 r c.requires.some in
    let positive : (pos 0) <ℤ (get_or xs 0 r).weight = omega (arith, ints, h) in
    simp to_z-of_z
    (rw (first_is xs r c.requires.some) (weight_none (get_or xs 0 r).weight positive))

pub loop-part-preserved : goal.loop-part-preserved
loop-part-preserved c =
    let xs = c.args.parts.now in
    let i = c.loop-part.part-index in
    let x = c.part-item.result in
    let g = c.common-shared.result in
    let f : FitsSigned w128 g = search rules in
    let w : FitsSigned w128 x.weight = search rules in
    let first = first_weight (map part_of xs) in
    let gcd = simp to_z-of_z at c.common-shared.ensures.gcd in
    simp to_z-of_z
    (subst (λ (ys : Strategy). IsWeightDivisor first ys g)
    (sym (first_more xs i x c.loop-part-test.true c.part-item.is))
    (weight_more first (map part_of (take i xs)) _ g (part_of x) c.loop-part.invariant
    c.common-shared.ensures.positive gcd))

pub returns : goal.returns
returns c =
    let xs = c.args.parts.now in
    let n = length-map xs part_of in
    let some : 0 < length (map part_of xs) = let h = c.requires.some in omega (arith, n, h) in
    let all = take_all c.loop-part.part-index xs c.loop-part-test.false in
    weight_all _ (map part_of xs) some (rw all at c.loop-part.invariant)
