use Rattle.zr_game.proofs.Checks.{Checked}
use Rattle.zr_tree.specs.Nodes.{node_of}
use Rattle.zr_cert.specs.Forms.{IsCoverNode}
use Rattle.zr_cert.proofs.cover.are_cover_nodes.Given as goal

abbrev pub invariant-loop-node : goal.invariant-loop-node
invariant-loop-node l = Checked l.node-index (λ k node. IsCoverNode (node_of node)) l.nodes l.all
