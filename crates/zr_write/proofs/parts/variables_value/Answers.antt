use Rattle.zr_game.specs.Players.{var_of}
use Rattle.zr_write.specs.Canonical.{variable_data}
use Rattle.zr_write.proofs.Grown.{whole_by}
use Rattle.zr_write.proofs.parts.variables_value.Goals as goal

pub returns : goal.returns
returns c = whole_by (variable_data c.args.lows) var_of c.args.vars.now c.loop-var.var-index c.loop-var.items c.loop-var-test.false c.loop-var.invariant
