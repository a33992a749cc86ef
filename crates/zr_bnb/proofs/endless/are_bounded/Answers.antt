use Rattle.zr_game.specs.Players.{var_of}
use Rattle.zr_game.proofs.Items.{found}
use Rattle.zr_bnb.proofs.endless.are_bounded.Goals as goal

pub is_bounded-requires-clause-whole : goal.is_bounded-requires-clause-whole
is_bounded-requires-clause-whole c =
    let at = rw c.deref-var-items.ensures.value at c.var-item.is in
    let below = rw c.deref-var-items.ensures.value at c.loop-v-test.true in (
      var_of c.var-item.result,
      found var_of c.args.player.now.vars.items c.loop-v.v c.var-item.result below at,
      c.if-var.true,
    )
