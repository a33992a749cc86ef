use Rattle.std.proofs.Common.{arith}
use Rattle.zr_game.specs.Players.{var_of}
use Rattle.zr_game.specs.Forms.{IsVarForm}
use Rattle.zr_game.proofs.Checks.{all_checked, all_mapped, more_checked, none_checked}
use Rattle.zr_game.proofs.form.are_vars.Goals as goal

pub loop-var-init : goal.loop-var-init
loop-var-init c = none_checked (λ v var. IsVarForm (var_of var)) c.args.vars.now

pub loop-var-preserved : goal.loop-var-preserved
loop-var-preserved c =
    more_checked (λ v var. IsVarForm (var_of var)) c.args.vars.now c.loop-var.var-index
    c.var-item.result c.loop-var-test.true c.var-item.is c.loop-var.all c.loop-var.invariant
    c.is_var-all.result c.is_var-all.ensures

pub returns : goal.returns
returns c =
    all_mapped var_of (IsVarForm) c.args.vars.now c.loop-var.all
    (all_checked (λ v var. IsVarForm (var_of var)) c.args.vars.now c.loop-var.var-index
    c.loop-var.all (omega arith) (omega arith) c.loop-var.invariant)
