-- The box tree that a list of nodes is.
use Rattle.std.specs.Prelude.{◌≡◌, map}
use Rattle.zr_cases.specs.declared.box_tree.BoxTree.{BoxTree}
use Rattle.zr_cases.specs.Cases.{bnode_of}
use Rattle.zr_cases.specs.Trees.{BoxTreeOf, box_preorder}

abbrev pub IsBoxTreeOf : BoxTree → BoxTreeOf → Type 0
IsBoxTreeOf tree t = box_preorder t ≡ map bnode_of tree.nodes.items
