use Rattle.std.proofs.Common.{rules, sym, ap, subst, FitsSigned}
use Rattle.std.specs.Int.{w128}
use Rattle.std.proofs.lemmas.Int.{to_z-of_z}
use Rattle.zr_tree.specs.Form.{IsNodeForm}
use Rattle.zr_tree.specs.Nodes.{node_of}
use Rattle.zr_tree.specs.Right.{ArePositive}
use Rattle.zr_tree.proofs.Combinations.{positive_if}
use Rattle.zr_tree.proofs.end.keeps_row.Goals as goal

pub proves-requires-clause-positive : goal.proves-requires-clause-positive
proves-requires-clause-positive c =
    let f = subst IsNodeForm (ap node_of c.in-Leaf.is) c.requires.node in
    subst ArePositive (sym c.deref.ensures.value) (positive_if 0 c.in-Leaf.mult.items f.2)

pub returns-in-Leaf : goal.returns-in-Leaf
returns-in-Leaf c =
    let f : FitsSigned w128 c.args.le = search rules in
    let g : FitsSigned w128 c.in-Leaf.scale = search rules in
    rw c.in-Leaf.is (rw c.deref.ensures.value at (simp to_z-of_z at c.proves.ensures))
