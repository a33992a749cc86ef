use Rattle.zr_game.specs.Named.{named_of}
use Rattle.zr_lines.specs.Spelling.{named_line}
use Rattle.zr_text.proofs.Putting.{all_written, lines_grow, more_written, none_written}
use Rattle.zr_text.proofs.writing_lines.put_items.Goals as goal

pub loop-item-init : goal.loop-item-init
loop-item-init c = none_written (lines_grow named_line named_of) c.args.out.now.items c.args.items.now

pub loop-item-preserved : goal.loop-item-preserved
loop-item-preserved c =
    more_written (lines_grow named_line named_of) c.args.out.now.items c.args.items.now c.loop-item.item-index c.item-item.result c.loop-item.out.items c.put_item.new.out.items c.loop-item-test.true c.item-item.is c.loop-item.invariant c.in_ok-put_item.ensures

pub returns : goal.returns
returns c = all_written (lines_grow named_line named_of) c.args.out.now.items c.args.items.now c.loop-item.item-index c.loop-item.out.items c.loop-item-test.false c.loop-item.invariant
