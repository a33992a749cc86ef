use Rattle.std.proofs.Common.{pos, sym, None}
use Rattle.std.proofs.lemmas.Result.{err_from_is_err_and}
use Rattle.zr_game.specs.declared.player.Other.{Other}
use Rattle.zr_game.specs.CostSteps.{other_term}
use Rattle.zr_game.specs.CostTerms.{other_value}
use Rattle.zr_game.proofs.CostSums.{all_summed, more_summed, none_summed, wide_sum, wide_term}
use Rattle.zr_game.proofs.costs.other_sum.Goals as goal

abbrev none : Other
none = record { first = (0, 0); second = None; coef = pos 0 }

pub other_product-requires : goal.other_product-requires
other_product-requires c = c.requires.terms c.loop-t.t-index none c.loop-t-test.true

pub loop-t-init : goal.loop-t-init
loop-t-init c =
    let make = other_term c.args.points.now in
    let value = other_value c.args.points.now in
    none_summed make value c.args.start c.requires.lowest

pub returns-in_err-term-clause-steps : goal.returns-in_err-term-clause-steps
returns-in_err-term-clause-steps c =
    let make = other_term c.args.points.now in
    let value = other_value c.args.points.now in
    let l = c.loop-t in
    let p = err_from_is_err_and c.from_residual.result c.from_residual.ensures.1 in
    let made = sym c.in_err-term.ensures.steps in
    rw (p.1, p.2)
    (sym (wide_term make value c.args.start c.args.others.now l.t-index none c.loop-t-test.true
    l.sum l.invariant _ made))

pub returns-in_err-sum-clause-steps : goal.returns-in_err-sum-clause-steps
returns-in_err-sum-clause-steps c =
    let make = other_term c.args.points.now in
    let value = other_value c.args.points.now in
    let l = c.loop-t in
    let p = err_from_is_err_and c.from_residual-in_err-sum.result
    c.from_residual-in_err-sum.ensures.1 in
    let made = sym c.in_ok-term.ensures.steps in
    let adds = sym c.in_err-sum.ensures.steps in
    rw (p.1, p.2)
    (sym (wide_sum make value c.args.start c.args.others.now l.t-index none c.loop-t-test.true
    l.sum l.invariant c.in_ok-term.term _ made adds))

pub loop-t-preserved : goal.loop-t-preserved
loop-t-preserved c =
    let make = other_term c.args.points.now in
    let value = other_value c.args.points.now in
    let l = c.loop-t in
    let term = c.in_ok-term in
    let sum = c.in_ok-sum in
    more_summed make value c.args.start c.args.others.now l.t-index none c.loop-t-test.true l.sum
    l.invariant term.term sum.sum (sym term.ensures.steps) term.ensures.exact
    (sym sum.ensures.steps) sum.ensures.exact sum.ensures.lowest

pub returns-clause-exact : goal.returns-clause-exact
returns-clause-exact c =
    let make = other_term c.args.points.now in
    let value = other_value c.args.points.now in
    let l = c.loop-t in
    (all_summed make value c.args.start c.args.others.now l.t-index l.sum c.loop-t-test.false
    l.invariant).exact
