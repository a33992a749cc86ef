-- Paths that lead from the leaf of all points of a player to the nodes of an open tree.
use Rattle.std.specs.Prelude.{◌≢◌, ℕ, ℤ, List, [], ◌∷◌}
use Rattle.zr_game.specs.Players.{PlayerOf}
use Rattle.zr_game.specs.Leaves.{HasPoint, IsOpenPair, IsWholeVar, LeafOf, above, below, decided, root_leaf}
use Rattle.zr_game.specs.declared.leaf.Side.TheVariants as ASide
use Rattle.zr_asked.specs.declared.question.Move.{Move}
use Rattle.zr_asked.specs.declared.question.Move.TheVariants as AMove

-- the child of a leaf that a move names
abbrev pub child_by : LeafOf → Move → LeafOf
child_by leaf (AMove.Low v at) = below leaf v at
child_by leaf (AMove.High v at) = above leaf v at
child_by leaf (AMove.VarZero p) = decided leaf p ASide.VarZero
child_by leaf (AMove.RowZero p) = decided leaf p ASide.RowZero

-- the leaf to which moves lead
abbrev pub leaf_after : LeafOf → List Move → LeafOf
leaf_after leaf [] = leaf
leaf_after leaf (m ∷ ms) = leaf_after (child_by leaf m) ms

-- the leaf to which they lead from the leaf of all points
abbrev pub branch : PlayerOf → List Move → LeafOf
branch player path = leaf_after (root_leaf player) path

-- a split of a whole variable, both of whose children differ from the leaf
pub record IsSplit (player : PlayerOf) (leaf : LeafOf) (v : ℕ) (at : ℤ) : Type 0 where
  pub whole : IsWholeVar player v
  pub low : below leaf v at ≢ leaf
  pub high : above leaf v at ≢ leaf

-- the move is to a child of such a split, or of a choice of a pair that is undecided
abbrev pub IsMove : PlayerOf → LeafOf → Move → Type 0
IsMove player leaf (AMove.Low v at) = IsSplit player leaf v at
IsMove player leaf (AMove.High v at) = IsSplit player leaf v at
IsMove player leaf (AMove.VarZero p) = IsOpenPair player leaf p
IsMove player leaf (AMove.RowZero p) = IsOpenPair player leaf p

-- each move goes on from a leaf whose rows have a solution
abbrev pub AreOpenMoves : PlayerOf → LeafOf → List Move → Type 0
AreOpenMoves player leaf [] = Unit {0}
AreOpenMoves player leaf (m ∷ ms) =
    HasPoint player leaf × IsMove player leaf m × AreOpenMoves player (child_by leaf m) ms

-- the path leads from the leaf of all points to a node of an open tree
abbrev pub IsOpenPath : PlayerOf → List Move → Type 0
IsOpenPath player path = AreOpenMoves player (root_leaf player) path
