use Rattle.std.proofs.Common.{◌==◌, pos, sym}
use Rattle.std.proofs.lemmas.Result.{err_from_is_err_and}
use Rattle.zr_game.specs.declared.player.CrossTerm.{CrossTerm}
use Rattle.zr_game.specs.Games.{game_of}
use Rattle.zr_mix.specs.Steps.{slope_term}
use Rattle.zr_mix.specs.Values.{term_at}
use Rattle.zr_mix.proofs.Filtered.{all_onward, more_onward, none_onward, wide_onward}
use Rattle.zr_mix.proofs.slopes.with_terms.Goals as goal

pub loop-t-init : goal.loop-t-init
loop-t-init c =
    none_onward (slope_term (game_of c.args.game.now) c.args.means.now)
    (term_at (game_of c.args.game.now) c.args.means.now) (λ (t : CrossTerm). t.own == c.args.v)
    c.args.start c.args.cross.now c.requires.lowest

pub with_term-requires : goal.with_term-requires
with_term-requires c = record {
  mean = c.requires.means c.loop-t.t-index (record { own = 0; player = 0; var = 0; coef = pos 0 })
      c.loop-t-test.true;
  lowest = c.loop-t.invariant.lowest;
}

pub returns-in_err-sum-clause-steps : goal.returns-in_err-sum-clause-steps
returns-in_err-sum-clause-steps c =
    let p = err_from_is_err_and c.from_residual.result c.from_residual.ensures.1 in
    rw (p.1, p.2)
    (sym (wide_onward (slope_term (game_of c.args.game.now) c.args.means.now)
    (term_at (game_of c.args.game.now) c.args.means.now) (λ (t : CrossTerm). t.own == c.args.v)
    c.args.start c.args.cross.now c.loop-t.t-index
    (record { own = 0; player = 0; var = 0; coef = pos 0 }) c.loop-t-test.true c.loop-t.sum
    c.loop-t.invariant _ (sym c.in_err-sum.ensures.steps)))

pub loop-t-preserved : goal.loop-t-preserved
loop-t-preserved c =
    more_onward (slope_term (game_of c.args.game.now) c.args.means.now)
    (term_at (game_of c.args.game.now) c.args.means.now) (λ (t : CrossTerm). t.own == c.args.v)
    c.args.start c.args.cross.now c.loop-t.t-index
    (record { own = 0; player = 0; var = 0; coef = pos 0 }) c.loop-t-test.true c.loop-t.sum
    c.loop-t.invariant c.in_ok-sum.sum (sym c.in_ok-sum.ensures.steps) c.in_ok-sum.ensures.exact
    c.in_ok-sum.ensures.lowest

pub returns-clause-steps : goal.returns-clause-steps
returns-clause-steps c =
    sym (all_onward (slope_term (game_of c.args.game.now) c.args.means.now)
    (term_at (game_of c.args.game.now) c.args.means.now) (λ (t : CrossTerm). t.own == c.args.v)
    c.args.start c.args.cross.now c.loop-t.t-index c.loop-t.sum c.loop-t-test.false
    c.loop-t.invariant).0

pub returns-clause-exact : goal.returns-clause-exact
returns-clause-exact c =
    (all_onward (slope_term (game_of c.args.game.now) c.args.means.now)
    (term_at (game_of c.args.game.now) c.args.means.now) (λ (t : CrossTerm). t.own == c.args.v)
    c.args.start c.args.cross.now c.loop-t.t-index c.loop-t.sum c.loop-t-test.false
    c.loop-t.invariant).1
