use Rattle.zr_game.specs.Players.{var_of}
use Rattle.zr_write.specs.Canonical.{variable_data}
use Rattle.zr_write.proofs.Grown.{Stands}
use Rattle.zr_write.proofs.parts.variables_value.Given as goal

abbrev pub invariant-loop-var : goal.invariant-loop-var
invariant-loop-var l = Stands (λ var. variable_data l.lows (var_of var)) l.vars l.var-index l.items.items
