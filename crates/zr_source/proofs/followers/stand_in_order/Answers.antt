use Rattle.zr_source.proofs.FormTests.{all_standing, none_standing}
use Rattle.zr_source.proofs.followers.stand_in_order.Goals as goal

pub loop-k-init : goal.loop-k-init
loop-k-init c = none_standing c.args.columns c.args.followers.now

pub returns : goal.returns
returns c = all_standing c.args.columns c.args.followers.now c.loop-k.k c.loop-k.all
    c.loop-k-test.false c.loop-k.invariant
