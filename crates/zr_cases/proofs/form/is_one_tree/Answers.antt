use Rattle.std.proofs.Common.{arith, refl}
use Rattle.zr_cases.specs.Cases.{rnode_of}
use Rattle.zr_cases.specs.Forms.{case_count}
use Rattle.zr_cases.proofs.Whole.{all_seen, due_next, none_due}
use Rattle.zr_cases.proofs.form.is_one_tree.Goals as goal

pub loop-node-init : goal.loop-node-init
loop-node-init c = record { few = omega arith; left = refl }

pub returns-then-due-eq0 : goal.returns-then-due-eq0
returns-then-due-eq0 c =
    none_due rnode_of (case_count c.args.leaves.now) c.args.nodes.now c.loop-node.node-index c.loop-node.due c.loop-node.invariant.left c.node-item.result c.loop-node-test.true c.node-item.is c.if-due-eq0.true

pub loop-node-preserved : goal.loop-node-preserved
loop-node-preserved c = record {
  few = omega arith;
  left = due_next rnode_of (case_count c.args.leaves.now) c.args.nodes.now c.loop-node.node-index c.loop-node.due c.loop-node.invariant.left c.node-item.result c.loop-node-test.true c.node-item.is (omega arith) c.count_of_cases.result c.count_of_cases.ensures.value;
}

pub returns : goal.returns
returns c =
    all_seen rnode_of (case_count c.args.leaves.now) c.args.nodes.now c.loop-node.node-index c.loop-node.due c.loop-node.invariant.left c.loop-node-test.false
