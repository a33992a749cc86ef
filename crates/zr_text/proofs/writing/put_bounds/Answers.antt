use Rattle.zr_cert.specs.Certs.{bound_of}
use Rattle.zr_text.specs.Spelling.{bound_lines}
use Rattle.zr_text.proofs.Putting.{all_written, blocks_grow, more_written, none_written}
use Rattle.zr_text.proofs.writing.put_bounds.Goals as goal

pub loop-i-init : goal.loop-i-init
loop-i-init c = none_written (blocks_grow bound_lines bound_of) c.args.out.now.items c.args.bounds.now

pub loop-i-preserved : goal.loop-i-preserved
loop-i-preserved c =
    more_written (blocks_grow bound_lines bound_of) c.args.out.now.items c.args.bounds.now c.loop-i.i c.index-bounds-i.result c.loop-i.out.items c.put_bound.new.out.items c.loop-i-test.true c.index-bounds-i.is c.loop-i.invariant c.in_ok-put_bound.ensures

pub returns : goal.returns
returns c = all_written (blocks_grow bound_lines bound_of) c.args.out.now.items c.args.bounds.now c.loop-i.i c.loop-i.out.items c.loop-i-test.false c.loop-i.invariant
