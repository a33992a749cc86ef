use Rattle.std.proofs.Common.{◌≡◌, ◌∙◌, arith, sym, subst, ap₂, pos, length}
use Rattle.std.proofs.lemmas.Result.{err_from_is_err_and}
use Rattle.zr_base.specs.Fractions.{Fraction, IsSame, times, whole}
use Rattle.zr_base.specs.Lowest.{mul_of}
use Rattle.zr_base.proofs.SumSteps.{get_or_default}
use Rattle.zr_mix.specs.Values.{item_of}
use Rattle.zr_mix.proofs.Products.{ValueOf, exact_of, made_of, more_of, none_of, sum_wide, term_wide, value_along}
use Rattle.zr_mix.proofs.values.value.Goals as goal
use Rattle.zr_mix.proofs.values.value.Goals.{After-index-mean-v}

slope_item : (c : After-index-mean-v) → c.index-slope-v.result ≡ item_of c.args.slope.now c.loop-v.v
slope_item c = c.index-slope-v.is ∙ get_or_default c.args.slope.now c.loop-v.v
    c.index-slope-v.result (whole (pos 0)) c.loop-v-test.true

mean_item : (c : After-index-mean-v) → c.index-mean-v.result ≡ item_of c.args.mean.now c.loop-v.v
mean_item c = c.index-mean-v.is ∙ get_or_default c.args.mean.now c.loop-v.v c.index-mean-v.result
    (whole (pos 0)) (omega (arith, c.loop-v-test.true, c.requires))

pub loop-v-init : goal.loop-v-init
loop-v-init c =
    subst (λ (s : Fraction). ValueOf c.args.slope.now c.args.mean.now 0 s)
    (sym c.from-sum.ensures.0) (none_of c.args.slope.now c.args.mean.now)

pub returns-in_err-term-clause-steps : goal.returns-in_err-term-clause-steps
returns-in_err-term-clause-steps c =
    let at = (goal.at.returns-in_err-term-clause-steps c).After-index-mean-v in
    let p = err_from_is_err_and c.from_residual.result c.from_residual.ensures.1 in
    rw (p.1, p.2) (term_wide c.args.slope.now c.args.mean.now c.loop-v.v c.loop-v.sum
    c.loop-v.invariant c.requires c.loop-v-test.true _ (c.in_err-term.ensures.steps ∙
    ap₂ mul_of (slope_item at) (mean_item at)))

pub returns-in_err-sum-clause-steps : goal.returns-in_err-sum-clause-steps
returns-in_err-sum-clause-steps c =
    let at = (goal.at.returns-in_err-sum-clause-steps c).After-index-mean-v in
    let p = err_from_is_err_and c.from_residual-in_err-sum.result
    c.from_residual-in_err-sum.ensures.1 in
    rw (p.1, p.2) (sum_wide c.args.slope.now c.args.mean.now c.loop-v.v c.loop-v.sum
    c.loop-v.invariant c.requires c.loop-v-test.true c.in_ok-term.term _
    (c.in_ok-term.ensures.steps ∙ ap₂ mul_of (slope_item at) (mean_item at))
    c.in_err-sum.ensures.steps)

pub loop-v-preserved : goal.loop-v-preserved
loop-v-preserved c =
    let at = (goal.at.loop-v-preserved c).After-index-mean-v in
    let same = subst (λ (x : Fraction). IsSame c.in_ok-term.term x)
    (ap₂ times (slope_item at) (mean_item at)) c.in_ok-term.ensures.exact in
    more_of c.args.slope.now c.args.mean.now c.loop-v.v c.loop-v.sum c.loop-v.invariant c.requires
    c.loop-v-test.true c.in_ok-term.term c.in_ok-sum.sum (c.in_ok-term.ensures.steps ∙
    ap₂ mul_of (slope_item at) (mean_item at)) same c.in_ok-sum.ensures.steps
    c.in_ok-sum.ensures.exact c.in_ok-sum.ensures.lowest

pub returns-clause-steps : goal.returns-clause-steps
returns-clause-steps c =
    made_of c.args.slope.now c.args.mean.now c.loop-v.v c.loop-v.sum c.loop-v.invariant c.requires
    (omega (arith, c.loop-v-test.false, c.loop-v.auto.v-end))

pub returns-clause-exact : goal.returns-clause-exact
returns-clause-exact c =
    exact_of c.args.slope.now c.args.mean.now c.loop-v.v c.loop-v.sum c.loop-v.invariant c.requires
    (omega (arith, c.loop-v-test.false, c.loop-v.auto.v-end))

pub returns-clause-along : goal.returns-clause-along
returns-clause-along c =
    let same = exact_of c.args.slope.now c.args.mean.now c.loop-v.v c.loop-v.sum c.loop-v.invariant
    c.requires (omega (arith, c.loop-v-test.false, c.loop-v.auto.v-end)) in
    λ f g left right. value_along c.args.slope.now c.args.mean.now (length c.args.slope.now) f g
    left right c.loop-v.sum c.loop-v.invariant.summed.lowest same
