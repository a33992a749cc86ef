-- Trees over a player's points.
use Rattle.std.specs.Prelude.{ℕ, ◌+◌, ℤ, List, [], ◌∷◌, ◌++◌}
use Rattle.zr_base.specs.Points.{PointOf}
use Rattle.zr_tree.specs.Nodes.{Multipliers, NodeOf, SplitNode, ChooseNode, ProofNode, KnownNode, LooseNode}

-- a split of a variable at a number, a choice of a pair's side, and three kinds of ends
pub data TreeOf : Type 0 where
  Split : ℕ → ℤ → TreeOf → TreeOf → TreeOf
  Choose : ℕ → TreeOf → TreeOf → TreeOf
  Proof : ℤ → Multipliers → TreeOf
  Known : PointOf → TreeOf
  Loose : TreeOf

-- the nodes, each before its children
abbrev pub preorder : TreeOf → List NodeOf
preorder (Split v at first second) = SplitNode v at ∷ (preorder first ++ preorder second)
preorder (Choose p first second) = ChooseNode p ∷ (preorder first ++ preorder second)
preorder (Proof scale mult) = ProofNode scale mult ∷ []
preorder (Known x) = KnownNode x ∷ []
preorder Loose = LooseNode ∷ []

-- how many nodes there are
abbrev pub size : TreeOf → ℕ
size (Split v at first second) = 1 + size first + size second
size (Choose p first second) = 1 + size first + size second
size (Proof scale mult) = 1
size (Known x) = 1
size Loose = 1
