use Rattle.zr_tree.specs.Nodes.{node_of}
use Rattle.zr_lines.specs.Spelling.{node_line}
use Rattle.zr_text.proofs.Putting.{all_written, lines_grow, more_written, none_written}
use Rattle.zr_text.proofs.writing_lines.put_tree.Goals as goal

pub loop-node-init : goal.loop-node-init
loop-node-init c = none_written (lines_grow node_line node_of) c.args.out.now.items c.args.nodes.now

pub loop-node-preserved : goal.loop-node-preserved
loop-node-preserved c =
    more_written (lines_grow node_line node_of) c.args.out.now.items c.args.nodes.now c.loop-node.node-index c.node-item.result c.loop-node.out.items c.put_node.new.out.items c.loop-node-test.true c.node-item.is c.loop-node.invariant c.in_ok-put_node.ensures

pub returns : goal.returns
returns c = all_written (lines_grow node_line node_of) c.args.out.now.items c.args.nodes.now c.loop-node.node-index c.loop-node.out.items c.loop-node-test.false c.loop-node.invariant
