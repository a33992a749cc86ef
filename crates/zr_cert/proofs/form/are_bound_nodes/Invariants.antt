use Rattle.zr_game.proofs.Checks.{Checked}
use Rattle.zr_tree.specs.Nodes.{node_of}
use Rattle.zr_cert.specs.Forms.{IsBoundNode}
use Rattle.zr_cert.proofs.form.are_bound_nodes.Given as goal

abbrev pub invariant-loop-node : goal.invariant-loop-node
invariant-loop-node l = Checked l.node-index (λ k node. IsBoundNode (node_of node)) l.nodes l.all
