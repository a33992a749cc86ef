use Rattle.std.proofs.Common.{subst, All}
use Rattle.std.proofs.lemmas.List.{take_all}
use Rattle.std.proofs.lemmas.List.Elements.{All-map, All-more}
use Rattle.zr_tree.specs.Nodes.{node_of}
use Rattle.zr_tree.specs.declared.node.Node.{Node}
use Rattle.zr_decide.specs.Coverings.{HasPointForm}
use Rattle.zr_decide.proofs.covers.read_points.Goals as goal

abbrev IsRead : Node → Type 0
IsRead node = HasPointForm (node_of node)

pub loop-node-preserved : goal.loop-node-preserved
loop-node-preserved c =
    All-more IsRead c.args.nodes.now c.loop-node.node-index c.node-item.result
    c.loop-node-test.true c.loop-node.invariant
    (subst IsRead c.node-item.is c.read_point.ensures)

pub returns : goal.returns
returns c =
    All-map HasPointForm node_of c.args.nodes.now
    (subst (All IsRead) (take_all c.loop-node.node-index c.args.nodes.now c.loop-node-test.false)
    c.loop-node.invariant)
