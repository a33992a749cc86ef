use Rattle.zr_game.specs.Players.{var_of}
use Rattle.zr_game.specs.Forms.{IsVarForm}
use Rattle.zr_game.proofs.Checks.{Checked}
use Rattle.zr_game.proofs.form.are_vars.Given as goal

abbrev pub invariant-loop-var : goal.invariant-loop-var
invariant-loop-var l = Checked l.var-index (λ v var. IsVarForm (var_of var)) l.vars l.all
