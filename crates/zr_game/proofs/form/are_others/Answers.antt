use Rattle.std.proofs.Common.{arith, pos, None, get_or}
use Rattle.zr_base.proofs.SumSteps.{get_or_default}
use Rattle.zr_game.specs.Forms.{IsOtherForm}
use Rattle.zr_game.specs.declared.player.Other.{Other}
use Rattle.zr_game.proofs.Checks.{all_checked, more_checked, none_checked}
use Rattle.zr_game.proofs.form.are_others.Goals as goal

pub loop-t-init : goal.loop-t-init
loop-t-init c game are =
    none_checked (λ v t. IsOtherForm game c.args.i t) c.args.others.now

pub loop-t-preserved : goal.loop-t-preserved
loop-t-preserved c game are =
    let d : Other = record { first = (0, 0); second = None; coef = pos 0 } in
    let terms = c.args.others.now in
    let at = c.loop-t.t-index in
    let t = get_or terms at d in
    let within = c.loop-t-test.true in
    let found = get_or_default terms at d t within in
    more_checked (λ v t. IsOtherForm game c.args.i t) terms at t within
    found c.loop-t.all (c.loop-t.invariant game are) c.is_other-all.result
    (c.is_other-all.ensures game are)

pub returns : goal.returns
returns c game are =
    all_checked (λ v t. IsOtherForm game c.args.i t) c.args.others.now
    c.loop-t.t-index c.loop-t.all (omega arith) (omega arith) (c.loop-t.invariant game are)
