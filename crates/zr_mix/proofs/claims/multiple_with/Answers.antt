use Rattle.std.proofs.Common.{rules, ◌≡◌, ◌∙◌, ap, ℤ, pos, unsigned_abs, int_div, FitsSigned}
use Rattle.std.specs.Int.{w128}
use Rattle.std.proofs.lemmas.Int.{to_z-of_z}
use Rattle.zr_base.specs.Steps.{cross_of}
use Rattle.zr_base.specs.Lowest.{gcd_of}
use Rattle.zr_mix.proofs.Multiples.{step_lcm, step_only}
use Rattle.zr_mix.proofs.claims.multiple_with.Goals as goal
use Rattle.zr_mix.proofs.claims.multiple_with.Goals.{After-cross}

pub divided-requires-clause-divides : goal.divided-requires-clause-divides
divided-requires-clause-divides c =
    let m : FitsSigned w128 c.args.m = search rules in
    let s : FitsSigned w128 c.common-shared.result = search rules in
    let d : FitsSigned w128 c.den-den.result = search rules in
    simp to_z-of_z (simp to_z-of_z at c.common-shared.ensures.gcd.1)

stepped : (c : After-cross) → c.cross.result ≡ cross_of (c.args.m, c.divided.result) (pos 0, pos 0)
stepped c =
    let m : FitsSigned w128 c.args.m = search rules in
    let b : FitsSigned w128 c.divided.result = search rules in
    simp to_z-of_z at c.cross.ensures

by_is : (c : After-cross)
    → c.divided.result ≡ int_div c.args.f.den
    (pos (gcd_of (unsigned_abs c.args.m) (unsigned_abs c.args.f.den)))
by_is c =
    let m : FitsSigned w128 c.args.m = search rules in
    let s : FitsSigned w128 c.common-shared.result = search rules in
    let d : FitsSigned w128 c.den-den.result = search rules in
    let value = simp to_z-of_z at c.divided.ensures.value in
    let shared = simp to_z-of_z at c.common-shared.ensures.value in
    rw c.den-den.ensures.value at (value ∙ ap (int_div c.den-den.result) shared)

pub returns-clause-steps : goal.returns-clause-steps
returns-clause-steps c =
    let at = goal.at.returns-clause-steps c in
    stepped at.After-cross ∙ ap (λ (b : ℤ). cross_of (c.args.m, b) (pos 0, pos 0))
    (by_is at.After-cross) ∙ step_only c.args.m c.args.f

pub returns-clause-exact : goal.returns-clause-exact
returns-clause-exact c =
    let at = goal.at.returns-clause-exact c in
    let m : FitsSigned w128 c.args.m = search rules in
    let s : FitsSigned w128 c.common-shared.result = search rules in
    let d : FitsSigned w128 c.den-den.result = search rules in
    let left = rw c.den-den.ensures.value at (simp to_z-of_z at c.divided.ensures.exact) in
    let gcd = rw c.den-den.ensures.value at (simp to_z-of_z at c.common-shared.ensures.gcd) in
    let below = rw c.den-den.ensures.value at c.den-den.ensures.positive in
    step_lcm c.args.m c.args.f c.divided.result c.common-shared.result c.requires below
    c.common-shared.ensures.positive left gcd c.cross.result (stepped at.After-cross)
