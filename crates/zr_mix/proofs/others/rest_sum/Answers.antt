use Rattle.std.proofs.Common.{pos, sym, None, [], subst}
use Rattle.std.proofs.lemmas.Result.{err_from_is_err_and}
use Rattle.zr_base.specs.Fractions.{Fraction, IsSame, sum_over, whole}
use Rattle.zr_game.specs.declared.player.Other.{Other}
use Rattle.zr_game.specs.Costs.{other_at}
use Rattle.zr_game.specs.Games.{game_of}
use Rattle.zr_game.proofs.CostSums.{Summed, all_summed, more_summed, none_plus, none_summed, wide_sum, wide_term, zero_lowest}
use Rattle.zr_mix.specs.Steps.{mean_in, rest_term}
use Rattle.zr_mix.proofs.others.rest_sum.Goals as goal

abbrev none : Other
none = record { first = (0, 0); second = None; coef = pos 0 }

pub rest_product-requires : goal.rest_product-requires
rest_product-requires c = c.requires c.loop-t.t-index none c.loop-t-test.true

pub loop-t-init : goal.loop-t-init
loop-t-init c =
    let make = rest_term (game_of c.args.game.now) c.args.means.now in
    let value = other_at (mean_in (game_of c.args.game.now) c.args.means.now) in
    let start = whole (pos 0) in
    subst (λ (s : Fraction). Summed make value start [] s) (sym c.from-sum.ensures.0)
    (none_summed make value start zero_lowest)

pub returns-in_err-term-clause-steps : goal.returns-in_err-term-clause-steps
returns-in_err-term-clause-steps c =
    let make = rest_term (game_of c.args.game.now) c.args.means.now in
    let value = other_at (mean_in (game_of c.args.game.now) c.args.means.now) in
    let l = c.loop-t in
    let p = err_from_is_err_and c.from_residual.result c.from_residual.ensures.1 in
    let made = sym c.in_err-term.ensures.steps in
    rw (p.1, p.2)
    (sym (wide_term make value (whole (pos 0)) c.args.others.now l.t-index none
    c.loop-t-test.true l.sum l.invariant _ made))

pub returns-in_err-sum-clause-steps : goal.returns-in_err-sum-clause-steps
returns-in_err-sum-clause-steps c =
    let make = rest_term (game_of c.args.game.now) c.args.means.now in
    let value = other_at (mean_in (game_of c.args.game.now) c.args.means.now) in
    let l = c.loop-t in
    let p = err_from_is_err_and c.from_residual-in_err-sum.result
    c.from_residual-in_err-sum.ensures.1 in
    let made = sym c.in_ok-term.ensures.steps in
    let adds = sym c.in_err-sum.ensures.steps in
    rw (p.1, p.2)
    (sym (wide_sum make value (whole (pos 0)) c.args.others.now l.t-index none
    c.loop-t-test.true l.sum l.invariant c.in_ok-term.term _ made adds))

pub loop-t-preserved : goal.loop-t-preserved
loop-t-preserved c =
    let make = rest_term (game_of c.args.game.now) c.args.means.now in
    let value = other_at (mean_in (game_of c.args.game.now) c.args.means.now) in
    let l = c.loop-t in
    let term = c.in_ok-term in
    let sum = c.in_ok-sum in
    more_summed make value (whole (pos 0)) c.args.others.now l.t-index none c.loop-t-test.true l.sum
    l.invariant term.term sum.sum (sym term.ensures.steps) term.ensures.exact
    (sym sum.ensures.steps) sum.ensures.exact sum.ensures.lowest

pub returns-clause-steps : goal.returns-clause-steps
returns-clause-steps c =
    let make = rest_term (game_of c.args.game.now) c.args.means.now in
    let value = other_at (mean_in (game_of c.args.game.now) c.args.means.now) in
    let l = c.loop-t in
    sym (all_summed make value (whole (pos 0)) c.args.others.now l.t-index l.sum c.loop-t-test.false
    l.invariant).steps

pub returns-clause-exact : goal.returns-clause-exact
returns-clause-exact c =
    let make = rest_term (game_of c.args.game.now) c.args.means.now in
    let value = other_at (mean_in (game_of c.args.game.now) c.args.means.now) in
    let l = c.loop-t in
    let all = all_summed make value (whole (pos 0)) c.args.others.now l.t-index l.sum
    c.loop-t-test.false l.invariant in
    subst (λ (s : Fraction). IsSame l.sum s) (none_plus (sum_over c.args.others.now value))
    all.exact
