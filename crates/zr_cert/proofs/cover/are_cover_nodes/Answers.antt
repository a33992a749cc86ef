use Rattle.std.proofs.Common.{arith}
use Rattle.zr_game.proofs.Checks.{all_checked, all_mapped, more_checked, none_checked}
use Rattle.zr_tree.specs.Nodes.{node_of}
use Rattle.zr_cert.specs.Forms.{IsCoverNode}
use Rattle.zr_cert.proofs.cover.are_cover_nodes.Goals as goal

pub loop-node-init : goal.loop-node-init
loop-node-init c = none_checked (λ k node. IsCoverNode (node_of node)) c.args.nodes.now

pub loop-node-preserved : goal.loop-node-preserved
loop-node-preserved c =
    more_checked (λ k node. IsCoverNode (node_of node)) c.args.nodes.now c.loop-node.node-index c.node-item.result c.loop-node-test.true c.node-item.is c.loop-node.all c.loop-node.invariant c.is_cover_node-all.result c.is_cover_node-all.ensures

pub returns : goal.returns
returns c =
    all_mapped node_of IsCoverNode c.args.nodes.now c.loop-node.all (all_checked (λ k node. IsCoverNode (node_of node)) c.args.nodes.now c.loop-node.node-index c.loop-node.all (omega arith) (omega arith) c.loop-node.invariant)
