use Rattle.std.proofs.Common.{rules, pos, get_or, FitsSigned, subst, sym, []}
use Rattle.std.specs.Int.{w64}
use Rattle.std.proofs.lemmas.Int.{to_z-of_z}
use Rattle.std.proofs.lemmas.Result.{err_from_is_err_and}
use Rattle.zr_base.specs.Fractions.{Fraction, IsSame, sum_over, whole}
use Rattle.zr_base.specs.Points.{value_of}
use Rattle.zr_game.specs.Costs.{own_at}
use Rattle.zr_game.specs.CostSteps.{own_term}
use Rattle.zr_game.proofs.CostSums.{all_summed, more_summed, none_plus, none_summed, Summed, zero_lowest, wide_sum, wide_term}
use Rattle.zr_game.proofs.costs.own_sum.Goals as goal

pub loop-v-init : goal.loop-v-init
loop-v-init c =
    let make = own_term c.args.point.now in
    let value = own_at (value_of c.args.point.now) in
    let start = whole (pos 0) in
    subst (λ (s : Fraction). Summed make value start [] s) (sym c.from-sum.ensures.0)
    (none_summed make value start zero_lowest)

pub returns-in_err-term-clause-steps : goal.returns-in_err-term-clause-steps
returns-in_err-term-clause-steps c =
    let make = own_term c.args.point.now in
    let value = own_at (value_of c.args.point.now) in
    let l = c.loop-v in
    let p = err_from_is_err_and c.from_residual.result c.from_residual.ensures.1 in
    let n : FitsSigned w64 (get_or c.args.cost.now l.v-index (0, pos 0)).1 = search rules in
    let made = sym (simp to_z-of_z at c.in_err-term.ensures.steps) in
    rw (p.1, p.2)
    (sym (wide_term make value (whole (pos 0)) c.args.cost.now l.v-index (0, pos 0)
    c.loop-v-test.true l.sum l.invariant _ made))

pub returns-in_err-sum-clause-steps : goal.returns-in_err-sum-clause-steps
returns-in_err-sum-clause-steps c =
    let make = own_term c.args.point.now in
    let value = own_at (value_of c.args.point.now) in
    let l = c.loop-v in
    let p = err_from_is_err_and c.from_residual-in_err-sum.result
    c.from_residual-in_err-sum.ensures.1 in
    let n : FitsSigned w64 (get_or c.args.cost.now l.v-index (0, pos 0)).1 = search rules in
    let made = sym (simp to_z-of_z at c.in_ok-term.ensures.steps) in
    let adds = sym c.in_err-sum.ensures.steps in
    rw (p.1, p.2)
    (sym (wide_sum make value (whole (pos 0)) c.args.cost.now l.v-index (0, pos 0)
    c.loop-v-test.true l.sum l.invariant c.in_ok-term.term _ made adds))

pub loop-v-preserved : goal.loop-v-preserved
loop-v-preserved c =
    let make = own_term c.args.point.now in
    let value = own_at (value_of c.args.point.now) in
    let l = c.loop-v in
    let term = c.in_ok-term in
    let sum = c.in_ok-sum in
    let n : FitsSigned w64 (get_or c.args.cost.now l.v-index (0, pos 0)).1 = search rules in
    let made = sym (simp to_z-of_z at term.ensures.steps) in
    let same = simp to_z-of_z at term.ensures.exact in
    more_summed make value (whole (pos 0)) c.args.cost.now l.v-index (0, pos 0) c.loop-v-test.true
    l.sum l.invariant term.term sum.sum made same (sym sum.ensures.steps) sum.ensures.exact
    sum.ensures.lowest

pub returns-clause-steps : goal.returns-clause-steps
returns-clause-steps c =
    let make = own_term c.args.point.now in
    let value = own_at (value_of c.args.point.now) in
    let l = c.loop-v in
    sym (all_summed make value (whole (pos 0)) c.args.cost.now l.v-index l.sum c.loop-v-test.false
    l.invariant).steps

pub returns-clause-exact : goal.returns-clause-exact
returns-clause-exact c =
    let make = own_term c.args.point.now in
    let value = own_at (value_of c.args.point.now) in
    let l = c.loop-v in
    let all = all_summed make value (whole (pos 0)) c.args.cost.now l.v-index l.sum
    c.loop-v-test.false l.invariant in
    subst (λ (s : Fraction). IsSame l.sum s) (none_plus (sum_over c.args.cost.now value)) all.exact
