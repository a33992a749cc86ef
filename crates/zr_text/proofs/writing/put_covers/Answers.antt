use Rattle.zr_text.proofs.Putting.{all_covers_written, covers_written, no_covers_written}
use Rattle.zr_text.proofs.writing.put_covers.Goals as goal

pub loop-i-init : goal.loop-i-init
loop-i-init c = no_covers_written c.args.out.now.items c.args.covers.now c.args.named.now

pub loop-i-preserved : goal.loop-i-preserved
loop-i-preserved c =
    covers_written c.args.out.now.items c.args.covers.now c.args.named.now c.loop-i.i c.index-covers-i.result c.index-named-i.result c.loop-i.out.items c.put_cover.new.out.items c.loop-i-test.true c.requires c.index-covers-i.is c.index-named-i.is c.loop-i.invariant (rw c.deref.ensures.value at (c.in_ok-put_cover.ensures c.loop-i.i))

pub returns : goal.returns
returns c =
    all_covers_written c.args.out.now.items c.args.covers.now c.args.named.now c.loop-i.i c.loop-i.out.items c.loop-i-test.false c.requires c.loop-i.invariant
