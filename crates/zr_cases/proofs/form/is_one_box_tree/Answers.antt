use Rattle.std.proofs.Common.{arith, refl}
use Rattle.zr_cases.specs.Cases.{bnode_of}
use Rattle.zr_cases.specs.Forms.{box_count}
use Rattle.zr_cases.proofs.Whole.{all_seen, due_next, none_due}
use Rattle.zr_cases.proofs.form.is_one_box_tree.Goals as goal

pub loop-node-init : goal.loop-node-init
loop-node-init c = record { few = omega arith; left = refl }

pub returns-then-due-eq0 : goal.returns-then-due-eq0
returns-then-due-eq0 c =
    none_due bnode_of box_count c.args.nodes.now c.loop-node.node-index c.loop-node.due c.loop-node.invariant.left c.node-item.result c.loop-node-test.true c.node-item.is c.if-due-eq0.true

pub loop-node-preserved : goal.loop-node-preserved
loop-node-preserved c = record {
  few = omega arith;
  left = due_next bnode_of box_count c.args.nodes.now c.loop-node.node-index c.loop-node.due c.loop-node.invariant.left c.node-item.result c.loop-node-test.true c.node-item.is (omega arith) c.count_of_boxes.result c.count_of_boxes.ensures.value;
}

pub returns : goal.returns
returns c =
    all_seen bnode_of box_count c.args.nodes.now c.loop-node.node-index c.loop-node.due c.loop-node.invariant.left c.loop-node-test.false
