use Rattle.std.proofs.Common.{arith, pos, get_or}
use Rattle.zr_base.proofs.SumSteps.{get_or_default}
use Rattle.zr_game.specs.Forms.{IsCrossForm}
use Rattle.zr_game.proofs.Checks.{all_checked, more_checked, none_checked}
use Rattle.zr_game.proofs.form.are_cross_terms.Goals as goal

pub loop-t-init : goal.loop-t-init
loop-t-init c game are = none_checked (λ v t. IsCrossForm game c.args.i c.args.columns t)
    c.args.cross.now

pub loop-t-preserved : goal.loop-t-preserved
loop-t-preserved c game are =
    let t = get_or c.args.cross.now c.loop-t.t-index
    (record { own = 0; player = 0; var = 0; coef = pos 0 }) in
    more_checked (λ v t. IsCrossForm game c.args.i c.args.columns t) c.args.cross.now
    c.loop-t.t-index t c.loop-t-test.true
    (get_or_default c.args.cross.now c.loop-t.t-index
    (record { own = 0; player = 0; var = 0; coef = pos 0 }) t c.loop-t-test.true) c.loop-t.all
    (c.loop-t.invariant game are) c.is_cross_term-all.result
    (c.is_cross_term-all.ensures game are)

pub returns : goal.returns
returns c game are =
    all_checked (λ v t. IsCrossForm game c.args.i c.args.columns t) c.args.cross.now
    c.loop-t.t-index c.loop-t.all (omega arith) (omega arith) (c.loop-t.invariant game are)
