-- The leaves that are due while a tree's leaves are listed.
use Rattle.std.specs.Prelude.{◌≡◌, List, [], ◌∷◌, ◌++◌, map}
use Rattle.std.specs.List.{All}
use Rattle.zr_game.specs.declared.leaf.Leaf.{Leaf}
use Rattle.zr_game.specs.declared.leaf.Side.TheVariants.{VarZero, RowZero}
use Rattle.zr_game.specs.Players.{PlayerOf}
use Rattle.zr_game.specs.Leaves.{IsLeafOf, LeafOf, leaf_of}
use Rattle.zr_tree.specs.Nodes.{NodeOf, SplitNode, ChooseNode, ProofNode, KnownNode, LooseNode}
use Rattle.zr_tree.specs.Covers.{high_child, low_child, side_child}

-- a list from its end, before `done`
abbrev pub upcoming_on : List Leaf → List Leaf → List Leaf
upcoming_on done [] = done
upcoming_on done (leaf ∷ leaves) = upcoming_on (leaf ∷ done) leaves

-- the last leaf is due first
abbrev pub upcoming : List Leaf → List Leaf
upcoming leaves = upcoming_on [] leaves

-- the leaves of a node's children
abbrev pub kid_leaves : PlayerOf → LeafOf → NodeOf → List LeafOf
kid_leaves player leaf (SplitNode v at) =
    low_child player leaf v at ∷ high_child player leaf v at ∷ []
kid_leaves player leaf (ChooseNode p) =
    side_child player leaf p VarZero ∷ side_child player leaf p RowZero ∷ []
kid_leaves player leaf (ProofNode scale mult) = []
kid_leaves player leaf (KnownNode x) = []
kid_leaves player leaf LooseNode = []

-- the leaf of a Known or Loose node
abbrev pub own_leaves : LeafOf → NodeOf → List LeafOf
own_leaves leaf (SplitNode v at) = []
own_leaves leaf (ChooseNode p) = []
own_leaves leaf (ProofNode scale mult) = []
own_leaves leaf (KnownNode x) = leaf ∷ []
own_leaves leaf LooseNode = leaf ∷ []

-- these leaves are due before those that were
pub record Opened (player : PlayerOf) (first : List LeafOf) (old new : List Leaf) : Type 0 where
  pub due : map leaf_of (upcoming new) ≡ first ++ map leaf_of (upcoming old)
  pub lengths : All (IsLeafOf player) (upcoming old) → All (IsLeafOf player) (upcoming new)
