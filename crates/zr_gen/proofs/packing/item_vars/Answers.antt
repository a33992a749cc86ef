use Rattle.zr_game.specs.Players.{var_of}
use Rattle.zr_gen.proofs.Lists.{pushed_view}
use Rattle.zr_gen.specs.Packing.{item_var}
use Rattle.zr_gen.proofs.packing.item_vars.Goals as goal

pub loop-k-preserved : goal.loop-k-preserved
loop-k-preserved c =
    pushed_view var_of item_var c.loop-k.list.items c.push.new.self.items c.in_ok-var.var c.loop-k.k
    c.loop-k.invariant c.in_ok-push.ensures.items c.in_ok-var.ensures
