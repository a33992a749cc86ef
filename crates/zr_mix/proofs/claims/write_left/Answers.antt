use Rattle.std.proofs.Common.{rules, ◌≡◌, ◌∙◌, arith, sym, subst, ap, ℕ, ◌+◌, ◌<◌, ℤ, List, get_or, pos, length, FitsSigned}
use Rattle.std.specs.Int.{w128}
use Rattle.std.proofs.lemmas.Int.{to_z-of_z}
use Rattle.std.proofs.lemmas.Result.{err_from_is_err_and}
use Rattle.zr_base.proofs.SumSteps.{get_or_default}
use Rattle.zr_base.specs.Fractions.{Fraction, whole}
use Rattle.zr_base.specs.Made.{made_from}
use Rattle.zr_mix.specs.Claims.{IsMultipleOf}
use Rattle.zr_mix.specs.Multiples.{IsNegatedOver}
use Rattle.zr_mix.specs.Steps.{all_negated, negated_over}
use Rattle.zr_mix.specs.Values.{item_of}
use Rattle.zr_base.proofs.Made.{Made, all_made, more_made, wide_made, writes_err, writes_ok}
use Rattle.zr_mix.proofs.Negated.{negated_made}
use Rattle.zr_mix.proofs.claims.write_left.Goals as goal

pub negated-requires-clause-multiple : goal.negated-requires-clause-multiple
negated-requires-clause-multiple c =
    let m : FitsSigned w128 c.args.m = search rules in
    simp to_z-of_z (subst (IsMultipleOf c.args.m) (sym c.index-slope-v.is)
    (c.requires.multiples c.loop-v.v c.index-slope-v.result c.loop-v-test.true))

at_item : (slope : List Fraction) (v : ℕ) (x : Fraction) → v < length slope → x ≡ get_or slope v x
    → x ≡ item_of slope v
at_item slope v x h is = is ∙ get_or_default slope v x (whole (pos 0)) h

listed : (m : ℤ) (slope : List Fraction)
    → all_negated m slope ≡ made_from (λ v. negated_over m (item_of slope v)) 0 (length slope)
listed m slope = negated_made m (whole (pos 0)) slope slope 0
    (λ v h. let e : 0 + v ≡ v = omega arith in ap (λ n. get_or slope n (whole (pos 0))) e)

pub returns-in_err-out-clause-steps : goal.returns-in_err-out-clause-steps
returns-in_err-out-clause-steps c =
    let m : FitsSigned w128 c.args.m = search rules in
    let p = err_from_is_err_and c.from_residual.result c.from_residual.ensures.1 in
    let slope = c.args.slope.now in
    let x = at_item slope c.loop-v.v c.index-slope-v.result c.loop-v-test.true c.index-slope-v.is in
    let e = sym (simp to_z-of_z at c.in_err-out.ensures.steps ∙ ap (negated_over c.args.m) x) in
    rw (p.1, p.2) (writes_err _ _ c.loop-v.out (listed c.args.m slope ∙
    wide_made (pos 0) (λ v. negated_over c.args.m (item_of slope v))
    (λ v z. IsNegatedOver c.args.m (item_of slope v) z) c.loop-v.out c.loop-v.v (length slope) _
    c.loop-v-test.true (simp to_z-of_z at c.loop-v.invariant) e))

pub loop-v-preserved : goal.loop-v-preserved
loop-v-preserved c =
    let m : FitsSigned w128 c.args.m = search rules in
    let z : FitsSigned w128 c.in_ok-out.field-0 = search rules in
    let slope = c.args.slope.now in
    let x = at_item slope c.loop-v.v c.index-slope-v.result c.loop-v-test.true c.index-slope-v.is in
    let e = sym (simp to_z-of_z at c.in_ok-out.ensures.steps ∙ ap (negated_over c.args.m) x) in
    let exact = subst (λ (f : Fraction). IsNegatedOver c.args.m f c.in_ok-out.field-0) x
    (simp to_z-of_z at c.in_ok-out.ensures.exact) in
    simp to_z-of_z (more_made (pos 0) (λ v. negated_over c.args.m (item_of slope v))
    (λ v z. IsNegatedOver c.args.m (item_of slope v) z) c.loop-v.out c.loop-v.v
    c.in_ok-out.field-0 (omega (arith, c.loop-v.auto.out, c.loop-v-test.true, c.requires.len))
    (simp to_z-of_z at c.loop-v.invariant) e exact)

pub returns-clause-steps : goal.returns-clause-steps
returns-clause-steps c =
    let m : FitsSigned w128 c.args.m = search rules in
    let slope = c.args.slope.now in
    let before = simp to_z-of_z at c.loop-v.invariant in
    let v : c.loop-v.v ≡ length slope = omega (arith, c.loop-v-test.false, c.loop-v.auto.v-end) in
    writes_ok _ c.loop-v.out (listed c.args.m slope ∙
    all_made (pos 0) (λ v. negated_over c.args.m (item_of slope v))
    (λ v z. IsNegatedOver c.args.m (item_of slope v) z) c.loop-v.out (length slope)
    (omega (arith, c.loop-v.auto.out, c.requires.len))
    (subst (λ n. Made (pos 0) (λ v. negated_over c.args.m (item_of slope v))
    (λ v z. IsNegatedOver c.args.m (item_of slope v) z) n c.loop-v.out) v before))

pub returns-clause-exact : goal.returns-clause-exact
returns-clause-exact c =
    let m : FitsSigned w128 c.args.m = search rules in
    let before = simp to_z-of_z at c.loop-v.invariant in
    λ v h. before.each v (omega (arith, h, c.loop-v-test.false))
