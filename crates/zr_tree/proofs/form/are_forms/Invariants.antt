use Rattle.zr_game.proofs.Checks.{Checked}
use Rattle.zr_tree.specs.Nodes.{node_of}
use Rattle.zr_tree.specs.Form.{IsNodeForm}
use Rattle.zr_tree.proofs.form.are_forms.Given as goal

abbrev pub invariant-loop-node : goal.invariant-loop-node
invariant-loop-node l = Checked l.node-index (λ k node. IsNodeForm (node_of node)) l.nodes l.all
