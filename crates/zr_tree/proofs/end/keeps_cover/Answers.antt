use Rattle.std.proofs.Common.{sym, ap, subst}
use Rattle.zr_tree.specs.Form.{IsNodeForm}
use Rattle.zr_tree.specs.Nodes.{node_of}
use Rattle.zr_tree.specs.Right.{ArePositive}
use Rattle.zr_tree.proofs.Combinations.{positive_if}
use Rattle.zr_tree.proofs.end.keeps_cover.Goals as goal

pub refutes-requires-clause-positive : goal.refutes-requires-clause-positive
refutes-requires-clause-positive c =
    let f = subst IsNodeForm (ap node_of c.in-Leaf.is) c.requires.node in
    subst ArePositive (sym c.deref.ensures.value) (positive_if 0 c.in-Leaf.mult.items f.2)
