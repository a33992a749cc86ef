use Rattle.std.proofs.Common.{arith}
use Rattle.std.proofs.lemmas.List.{length-map}
use Rattle.zr_game.specs.Players.{var_of}
use Rattle.zr_game.proofs.Items.{found}
use Rattle.zr_cover.proofs.split.first_endless.Goals as goal

pub returns-then-is_endless : goal.returns-then-is_endless
returns-then-is_endless c =
    let y = c.is_endless.ensures c.if-is_endless.true in
    let below = c.loop-v-test.true in (
      omega (arith, below, length-map c.args.vars.now var_of),
      (
        var_of c.index-vars-v.result,
        found var_of c.args.vars.now c.loop-v.v c.index-vars-v.result below c.index-vars-v.is,
        y.0,
      ),
      y.1,
    )
