use Rattle.zr_cases.specs.Cases.{rnode_of}
use Rattle.zr_lines.specs.Spelling.{case_line}
use Rattle.zr_text.proofs.Putting.{all_written, lines_grow, more_written, none_written}
use Rattle.zr_text.proofs.writing_lines.put_cases.Goals as goal

pub loop-node-init : goal.loop-node-init
loop-node-init c = none_written (lines_grow case_line rnode_of) c.args.out.now.items c.args.nodes.now

pub loop-node-preserved : goal.loop-node-preserved
loop-node-preserved c =
    more_written (lines_grow case_line rnode_of) c.args.out.now.items c.args.nodes.now c.loop-node.node-index c.node-item.result c.loop-node.out.items c.put_case.new.out.items c.loop-node-test.true c.node-item.is c.loop-node.invariant c.in_ok-put_case.ensures

pub returns : goal.returns
returns c = all_written (lines_grow case_line rnode_of) c.args.out.now.items c.args.nodes.now c.loop-node.node-index c.loop-node.out.items c.loop-node-test.false c.loop-node.invariant
