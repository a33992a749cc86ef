use Rattle.std.proofs.Common.{◌≡◌, ◌+◌, List, arith, refl, sym, ap, map, drop, drop-cons, add-one}
use Rattle.std.proofs.lemmas.List.{drop_all}
use Rattle.zr_tree.specs.declared.node.Node.{Node}
use Rattle.zr_tree.specs.Nodes.{node_of}
use Rattle.zr_cert.specs.Forms.{leaf_count, leaf_number}
use Rattle.zr_cert.proofs.cover.count_of_leaves.Goals as goal

pub loop-node-init : goal.loop-node-init
loop-node-init c = record { few = omega arith; left = omega arith }

pub loop-node-preserved : goal.loop-node-preserved
loop-node-preserved c =
    let i = c.loop-node.node-index in
    let xs = c.args.nodes.now in
    let cut : leaf_count (map node_of (drop i xs)) ≡ leaf_number (node_of c.node-item.result) + leaf_count (map node_of (drop (i + 1) xs)) = rw (add-one i, drop-cons xs i c.node-item.result c.loop-node-test.true, sym c.node-item.is) refl in
    record {
      few = omega (arith, c.leaf_number-count.ensures.most, c.loop-node.invariant.few);
      left = omega (arith, cut, c.leaf_number-count.ensures.value, c.loop-node.invariant.left);
    }

pub returns : goal.returns
returns c =
    let none : leaf_count (map node_of (drop c.loop-node.node-index c.args.nodes.now)) ≡ 0 = ap (λ (ys : List Node). leaf_count (map node_of ys)) (drop_all c.loop-node.node-index c.args.nodes.now c.loop-node-test.false) in
    omega (arith, none, c.loop-node.invariant.left)
