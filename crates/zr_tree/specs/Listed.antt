-- The tree that a list of nodes is.
use Rattle.std.specs.Prelude.{◌≡◌, map}
use Rattle.zr_tree.specs.declared.tree.Tree.{Tree}
use Rattle.zr_tree.specs.Nodes.{node_of}
use Rattle.zr_tree.specs.Trees.{TreeOf, preorder}

abbrev pub IsTreeOf : Tree → TreeOf → Type 0
IsTreeOf tree t = preorder t ≡ map node_of tree.nodes.items
