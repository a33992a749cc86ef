use Rattle.serde_json.specs.Data.{string}
use Rattle.zr_game.specs.Players.{var_of}
use Rattle.zr_source.specs.Names.{var_name}
use Rattle.zr_write.proofs.Grown.{whole_twice}
use Rattle.zr_write.proofs.followers.names_value.Goals as goal

pub returns : goal.returns
returns c = whole_twice (λ name. string name) var_name var_of c.args.vars.now c.loop-var.var-index c.loop-var.items c.loop-var-test.false c.loop-var.invariant
