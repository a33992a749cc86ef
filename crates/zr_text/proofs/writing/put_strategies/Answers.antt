use Rattle.zr_cert.specs.Certs.{mixture_of}
use Rattle.zr_text.specs.Spelling.{strategy_lines}
use Rattle.zr_text.proofs.Putting.{all_written, blocks_grow, more_written, none_written}
use Rattle.zr_text.proofs.writing.put_strategies.Goals as goal

pub loop-i-init : goal.loop-i-init
loop-i-init c = none_written (blocks_grow strategy_lines mixture_of) c.args.out.now.items c.args.strategies.now

pub loop-i-preserved : goal.loop-i-preserved
loop-i-preserved c =
    more_written (blocks_grow strategy_lines mixture_of) c.args.out.now.items c.args.strategies.now c.loop-i.i c.index-strategies-i.result c.loop-i.out.items c.put_strategy.new.out.items c.loop-i-test.true c.index-strategies-i.is c.loop-i.invariant c.in_ok-put_strategy.ensures

pub returns : goal.returns
returns c = all_written (blocks_grow strategy_lines mixture_of) c.args.out.now.items c.args.strategies.now c.loop-i.i c.loop-i.out.items c.loop-i-test.false c.loop-i.invariant
