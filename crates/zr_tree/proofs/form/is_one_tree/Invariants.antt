use Rattle.zr_tree.proofs.TreeForms.{Due}
use Rattle.zr_tree.proofs.form.is_one_tree.Given as goal

abbrev pub invariant-loop-node : goal.invariant-loop-node
invariant-loop-node l = Due l.nodes l.node-index l.due
