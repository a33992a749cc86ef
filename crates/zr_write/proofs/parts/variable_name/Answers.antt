use Rattle.std.proofs.Common.{[], sym, ◌∙◌}
use Rattle.zr_game.specs.Players.{var_of}
use Rattle.zr_source.specs.Names.{var_name}
use Rattle.zr_write.proofs.Grown.{index_twice}
use Rattle.zr_write.proofs.parts.variable_name.Goals as goal

pub returns-in-Some : goal.returns-in-Some
returns-in-Some c = c.as_str.ensures.value ∙ sym (index_twice var_name var_of c.args.vars.now c.args.v c.in-Some.var.now [] c.in-Some.ensures.lookup.0 c.in-Some.ensures.lookup.1)
