use Rattle.std.proofs.Common.{rules, ◌∷◌, [], ◌∙◌, sym, ap, subst, to_z, FitsSigned}
use Rattle.std.specs.Int.{w128}
use Rattle.std.proofs.lemmas.Int.{to_z-of_z}
use Rattle.std.proofs.lemmas.Result.{err_from_is_err_and}
use Rattle.zr_base.specs.Fractions.{Fraction}
use Rattle.zr_mix.specs.Multiples.{IsLcm}
use Rattle.zr_mix.specs.Steps.{multiple_steps}
use Rattle.zr_mix.proofs.Multiples.{all_carried, more_carried, none_carried, wide_carried}
use Rattle.zr_mix.proofs.claims.multiple_of.Goals as goal

pub loop-f-init : goal.loop-f-init
loop-f-init c = none_carried c.args.slope.now

pub multiple_with-requires : goal.multiple_with-requires
multiple_with-requires c = c.loop-f.invariant.lcm.positive

pub returns-in_err-shared-clause-steps : goal.returns-in_err-shared-clause-steps
returns-in_err-shared-clause-steps c =
    let p = err_from_is_err_and c.from_residual.result c.from_residual.ensures.1 in
    let m = to_z w128 c.loop-f.shared-bits in
    let e = sym (c.in_err-shared.ensures.steps ∙
    ap (λ (f : Fraction). multiple_steps m (f ∷ [])) c.f-item.is) in
    rw (p.1, p.2)
    (sym (wide_carried c.args.slope.now c.loop-f.f-index c.f-item.result c.loop-f-test.true m
    c.loop-f.invariant _ e))

pub loop-f-preserved : goal.loop-f-preserved
loop-f-preserved c =
    let r : FitsSigned w128 c.in_ok-shared.shared = search rules in
    let m = to_z w128 c.loop-f.shared-bits in
    let e = sym (c.in_ok-shared.ensures.steps ∙
    ap (λ (f : Fraction). multiple_steps m (f ∷ [])) c.f-item.is) in
    let lcm = subst (λ (f : Fraction). IsLcm m f.den c.in_ok-shared.shared) c.f-item.is
    c.in_ok-shared.ensures.exact in
    simp to_z-of_z (more_carried c.args.slope.now c.loop-f.f-index c.f-item.result
    c.loop-f-test.true m c.loop-f.invariant c.in_ok-shared.shared e lcm)

pub returns-clause-steps : goal.returns-clause-steps
returns-clause-steps c =
    sym (all_carried c.args.slope.now c.loop-f.f-index (to_z w128 c.loop-f.shared-bits)
    c.loop-f-test.false c.loop-f.invariant).0

pub returns-clause-exact : goal.returns-clause-exact
returns-clause-exact c =
    (all_carried c.args.slope.now c.loop-f.f-index (to_z w128 c.loop-f.shared-bits)
    c.loop-f-test.false c.loop-f.invariant).1
