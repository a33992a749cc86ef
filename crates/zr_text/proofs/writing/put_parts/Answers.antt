use Rattle.zr_mix.specs.Mixtures.{part_of}
use Rattle.zr_text.specs.Spelling.{part_line}
use Rattle.zr_text.proofs.Putting.{all_written, lines_grow, more_written, none_written}
use Rattle.zr_text.proofs.writing.put_parts.Goals as goal

pub loop-part-init : goal.loop-part-init
loop-part-init c = none_written (lines_grow part_line part_of) c.args.out.now.items c.args.parts.now

pub loop-part-preserved : goal.loop-part-preserved
loop-part-preserved c =
    more_written (lines_grow part_line part_of) c.args.out.now.items c.args.parts.now c.loop-part.part-index c.part-item.result c.loop-part.out.items c.put_part.new.out.items c.loop-part-test.true c.part-item.is c.loop-part.invariant c.in_ok-put_part.ensures

pub returns : goal.returns
returns c = all_written (lines_grow part_line part_of) c.args.out.now.items c.args.parts.now c.loop-part.part-index c.loop-part.out.items c.loop-part-test.false c.loop-part.invariant
