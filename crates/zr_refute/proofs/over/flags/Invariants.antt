use Rattle.std.proofs.Common.{◌≡◌, ◌++◌, drop, map}
use Rattle.zr_tree.specs.Nodes.{node_of}
use Rattle.zr_refute.specs.Flags.{flags_in}
use Rattle.zr_refute.proofs.over.flags.Given as goal

abbrev pub invariant-loop-node : goal.invariant-loop-node
invariant-loop-node l = l.list.items ++ flags_in (map node_of (drop l.node-index l.nodes))
    ≡ flags_in (map node_of l.nodes)
