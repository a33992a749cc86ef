use Rattle.std.proofs.Common.{arith}
use Rattle.zr_system.proofs.size.columns_before.Goals as goal

pub returns-clause-few : goal.returns-clause-few
returns-clause-few c =
    let few = c.args.game.now.sound.player_count in
    omega (arith, few, c.requires.first, c.loop-i.auto.i-end, c.loop-i.invariant.few)
