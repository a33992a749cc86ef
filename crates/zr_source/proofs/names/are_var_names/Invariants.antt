use Rattle.zr_game.proofs.Checks.{Checked}
use Rattle.zr_source.proofs.NameTests.{IsNew, var_text}
use Rattle.zr_source.proofs.names.are_var_names.Given as goal

abbrev pub invariant-loop-v : goal.invariant-loop-v
invariant-loop-v l = Checked l.v (IsNew var_text l.vars) l.vars l.all
