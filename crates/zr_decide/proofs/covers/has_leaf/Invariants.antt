use Rattle.std.proofs.Common.{◌≡◌, drop, map}
use Rattle.zr_tree.specs.Nodes.{node_of}
use Rattle.zr_cert.specs.Forms.{leaf_count}
use Rattle.zr_decide.proofs.covers.has_leaf.Given as goal

abbrev pub invariant-loop-node : goal.invariant-loop-node
invariant-loop-node l =
    leaf_count (map node_of (drop l.node-index l.nodes)) ≡ leaf_count (map node_of l.nodes)
