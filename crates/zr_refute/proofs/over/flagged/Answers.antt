use Rattle.std.proofs.Common.{arith, ◌<◌, refl, false, get_or, length}
use Rattle.zr_refute.proofs.Flagging.{flagged_more}
use Rattle.zr_refute.proofs.over.flagged.Goals as goal

pub loop-k-preserved : goal.loop-k-preserved
loop-k-preserved c =
    let e = c.in_ok-leaf.ensures in
    let f : c.loop-k.k < length c.args.exact.now = omega (arith, c.loop-k-test.true, c.requires) in
    rw c.in_ok-push.ensures.items (flagged_more c.args.leaves.now c.args.exact.now c.loop-k.k c.loop-k.list.items c.loop-k.invariant c.index-leaves-k.result c.in_ok-leaf.leaf (get_or c.args.exact.now c.loop-k.k false) c.loop-k-test.true f c.index-leaves-k.is refl e.low e.high e.sides)
