use Rattle.std.proofs.Common.{rules, ◌≡◌, arith, pos, neg_ℤ, ◌-ℤ◌, FitsSigned}
use Rattle.std.specs.Int.{w128}
use Rattle.std.proofs.lemmas.Int.{ints, to_z-of_z}
use Rattle.zr_mix.specs.Steps.{negated_over}
use Rattle.zr_mix.proofs.Multiples.{divides_multiple}
use Rattle.zr_mix.proofs.Negated.{negated_exact}
use Rattle.zr_mix.proofs.claims.negated.Goals as goal
use Rattle.zr_mix.proofs.claims.negated.Goals.{After-cross}

pub divided-requires-clause-divides : goal.divided-requires-clause-divides
divided-requires-clause-divides c =
    let m : FitsSigned w128 c.args.m = search rules in
    let d : FitsSigned w128 c.den.result = search rules in
    simp to_z-of_z
    (rw c.den.ensures.value (divides_multiple c.args.m c.args.f.den c.requires.multiple))

stepped : (c : After-cross) → c.cross.result ≡ negated_over c.args.m c.args.f
stepped c =
    let m : FitsSigned w128 c.args.m = search rules in
    let n : FitsSigned w128 c.num.result = search rules in
    let d : FitsSigned w128 c.den.result = search rules in
    let q : FitsSigned w128 c.divided.result = search rules in
    let narrow = c.num.ensures.narrow in
    let minus : pos 0 -ℤ c.num.result ≡ neg_ℤ c.num.result = omega (arith, ints) in
    let f : FitsSigned w128 (pos 0 -ℤ c.num.result) = omega (arith, ints, narrow) in
    let step = simp to_z-of_z at c.cross.ensures in
    let part = simp to_z-of_z at c.divided.ensures.value in
    rw (minus, part, c.num.ensures.value, c.den.ensures.value) at step

pub returns-clause-steps : goal.returns-clause-steps
returns-clause-steps c = stepped ((goal.at.returns-clause-steps c).After-cross)

pub returns-clause-exact : goal.returns-clause-exact
returns-clause-exact c =
    let positive = rw c.den.ensures.value at c.den.ensures.positive in
    negated_exact c.args.m c.args.f positive c.requires.multiple c.cross.result
    (stepped ((goal.at.returns-clause-exact c).After-cross))
