use Rattle.std.proofs.Common.{arith, refl}
use Rattle.zr_tree.proofs.TreeForms.{all_seen, due_next, none_due}
use Rattle.zr_tree.proofs.form.is_one_tree.Goals as goal

pub loop-node-init : goal.loop-node-init
loop-node-init c = record { few = omega arith; left = refl }

pub returns-then-due-eq0 : goal.returns-then-due-eq0
returns-then-due-eq0 c =
    none_due c.args.nodes.now c.loop-node.node-index c.loop-node.due c.loop-node.invariant c.node-item.result c.loop-node-test.true c.node-item.is c.if-due-eq0.true

pub loop-node-preserved : goal.loop-node-preserved
loop-node-preserved c =
    due_next c.args.nodes.now c.loop-node.node-index c.loop-node.due c.loop-node.invariant c.node-item.result c.loop-node-test.true c.node-item.is (omega arith) c.count_of_children.result c.count_of_children.ensures

pub returns : goal.returns
returns c =
    all_seen c.args.nodes.now c.loop-node.node-index c.loop-node.due c.loop-node.invariant c.loop-node-test.false
