use Rattle.std.proofs.Common.{rules, arith, ℤ, pos, int_div, FitsSigned}
use Rattle.std.specs.Int.{w128}
use Rattle.std.proofs.lemmas.Int.{to_z-of_z}
use Rattle.std.proofs.lemmas.List.{map_more, take_all}
use Rattle.zr_tidy.proofs.point.numbers_without.Goals as goal

pub divided-requires-clause-divides : goal.divided-requires-clause-divides
divided-requires-clause-divides c =
    let b : FitsSigned w128 c.args.by = c.ranges.by in
    let f : FitsSigned w128 c.num.result = search rules in
    let inside = c.loop-v-test.true in
    let len = c.len-v-end.ensures in
    simp to_z-of_z
    (rw c.num.ensures.value (c.requires.divides.1 c.loop-v.v (omega (arith, inside, len))))

pub loop-v-preserved : goal.loop-v-preserved
loop-v-preserved c =
    let b : FitsSigned w128 c.args.by = c.ranges.by in
    let f : FitsSigned w128 c.num.result = search rules in
    let g : FitsSigned w128 c.divided.result = search rules in
    let inside = c.loop-v-test.true in
    let len = c.len-v-end.ensures in
    let xs = c.args.point.now.num in
    let by = c.args.by in
    let value = rw c.num.ensures.value at (simp to_z-of_z at c.divided.ensures.value) in
    let before = simp to_z-of_z at c.loop-v.invariant in
    let push = simp to_z-of_z at c.in_ok-push.ensures.items in
    let more = map_more (λ (n : ℤ). int_div n by) xs c.loop-v.v (pos 0)
    (omega (arith, inside, len)) in
    simp to_z-of_z (cc (before, push, more, value))

pub returns : goal.returns
returns c =
    let b : FitsSigned w128 c.args.by = c.ranges.by in
    let past = c.loop-v-test.false in
    let len = c.len-v-end.ensures in
    let all = take_all c.loop-v.v c.args.point.now.num (omega (arith, past, len)) in
    rw all at (simp to_z-of_z at c.loop-v.invariant)
