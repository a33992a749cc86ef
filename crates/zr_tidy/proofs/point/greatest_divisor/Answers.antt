use Rattle.std.proofs.Common.{rules, sym, subst, ℤ, FitsSigned}
use Rattle.std.specs.Int.{w128}
use Rattle.std.proofs.lemmas.Int.{to_z-of_z}
use Rattle.zr_tidy.proofs.Greatest.{IsDivisorTo, divisor_more, divisor_none}
use Rattle.zr_tidy.proofs.point.greatest_divisor.Goals as goal

pub loop-v-init : goal.loop-v-init
loop-v-init c =
    let x = c.args.point.now in
    let f : FitsSigned w128 c.den-shared.result = search rules in
    let positive = rw c.den-shared.ensures.value at c.den-shared.ensures.positive in
    simp to_z-of_z
    (subst (λ (z : ℤ). IsDivisorTo 0 z x) (sym c.den-shared.ensures.value)
    (divisor_none x positive))

pub loop-v-preserved : goal.loop-v-preserved
loop-v-preserved c =
    let f : FitsSigned w128 c.common-shared.result = search rules in
    let n : FitsSigned w128 c.num.result = search rules in
    let gcd = rw c.num.ensures.value at (simp to_z-of_z at c.common-shared.ensures.gcd) in
    simp to_z-of_z
    (divisor_more c.loop-v.v _ c.common-shared.result c.args.point.now c.loop-v.invariant
    c.common-shared.ensures.positive gcd)
