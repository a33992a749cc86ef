use Rattle.std.proofs.Common.{All, take}
use Rattle.zr_tree.specs.Nodes.{node_of}
use Rattle.zr_decide.specs.Coverings.{HasPointForm}
use Rattle.zr_decide.proofs.covers.read_points.Given as goal

abbrev pub invariant-loop-node : goal.invariant-loop-node
invariant-loop-node l = All (λ node. HasPointForm (node_of node)) (take l.node-index l.nodes)
