-- Covers: trees whose leaves hold all points of a player.
use Rattle.std.specs.Prelude.{◌≡◌, ℕ, ℤ, Bool, true, false, List, [], ◌∷◌, ◌++◌, map, length, nat_lt, if◌then◌else◌, slice_get, Some}
use Rattle.zr_base.specs.Points.{PointOf}
use Rattle.zr_game.specs.Players.{PlayerOf}
use Rattle.zr_game.specs.Feasible.{IsFeasible}
use Rattle.zr_game.specs.Leaves.{HasPoint, IsSettled, LeafOf, MeetsLeaf, above, below, decided}
use Rattle.zr_game.specs.declared.leaf.Side.{Side}
use Rattle.zr_game.specs.declared.leaf.Side.TheVariants.{VarZero, RowZero}
use Rattle.zr_tree.specs.Nodes.{SplitNode, ChooseNode, ProofNode, KnownNode, LooseNode}
use Rattle.zr_tree.specs.Trees.{TreeOf, Split, Choose, Proof, Known, Loose}
use Rattle.zr_tree.specs.Right.{EndRule, IsRefutation, IsRightBy}

-- the leaf is settled, and the point meets the row of each slot that is present
abbrev pub IsKnown : PlayerOf → LeafOf → PointOf → Type 0
IsKnown player leaf x = IsSettled player leaf × MeetsLeaf player leaf x

-- an end shows that its leaf has no point, knows a point of a settled leaf, or leaves it loose
abbrev pub KeepsCover : PlayerOf → EndRule
KeepsCover player leaf (SplitNode v at) = ⊥
KeepsCover player leaf (ChooseNode p) = ⊥
KeepsCover player leaf (ProofNode scale mult) = IsRefutation player leaf scale mult
KeepsCover player leaf (KnownNode x) = IsKnown player leaf x
KeepsCover player leaf LooseNode = Unit {0}

-- the tree is a cover of the leaf
abbrev pub IsCoverTree : PlayerOf → LeafOf → TreeOf → Type 0
IsCoverTree player leaf tree = IsRightBy (KeepsCover player) player leaf tree

-- the children of a split, which are the leaf itself where the player has no such variable
abbrev pub low_child : PlayerOf → LeafOf → ℕ → ℤ → LeafOf
low_child player leaf v at = if nat_lt v (length player.vars) then below leaf v at else leaf

abbrev pub high_child : PlayerOf → LeafOf → ℕ → ℤ → LeafOf
high_child player leaf v at = if nat_lt v (length player.vars) then above leaf v at else leaf

-- a child of a choice, which is the leaf itself where the player has no such pair
abbrev pub side_child : PlayerOf → LeafOf → ℕ → Side → LeafOf
side_child player leaf p side =
    if nat_lt p (length player.pairs) then decided leaf p side else leaf

-- a leaf of a cover, and whether it is exact: a Known node's leaf is, a Loose node's isn't
pub record CoverLeaf : Type 0 where
  pub leaf : LeafOf
  pub exact : Bool

-- the leaves at a tree's Known and Loose nodes, in order
abbrev pub cover_leaves : PlayerOf → LeafOf → TreeOf → List CoverLeaf
cover_leaves player leaf (Split v at first second) =
    cover_leaves player (low_child player leaf v at) first
    ++ cover_leaves player (high_child player leaf v at) second
cover_leaves player leaf (Choose p first second) =
    cover_leaves player (side_child player leaf p VarZero) first
    ++ cover_leaves player (side_child player leaf p RowZero) second
cover_leaves player leaf (Proof scale mult) = []
cover_leaves player leaf (Known x) = record { leaf = leaf; exact = true } ∷ []
cover_leaves player leaf Loose = record { leaf = leaf; exact = false } ∷ []

-- the leaves alone
abbrev pub leaves_at : PlayerOf → LeafOf → TreeOf → List LeafOf
leaves_at player leaf tree = map (λ item. item.leaf) (cover_leaves player leaf tree)

-- each feasible point is in one of the leaves; the points of an exact leaf are feasible, and it
-- has one
pub record HoldPoints (player : PlayerOf) (leaves : List CoverLeaf) : Type 0 where
  pub covers : (x : PointOf) → IsFeasible player x
      → (k : ℕ) × (item : CoverLeaf) × (slice_get leaves k ≡ Some item)
      × MeetsLeaf player item.leaf x
  pub settled : (k : ℕ) (item : CoverLeaf) → slice_get leaves k ≡ Some item
      → item.exact ≡ true → (x : PointOf) → MeetsLeaf player item.leaf x
      → IsFeasible player x
  pub has_point : (k : ℕ) (item : CoverLeaf) → slice_get leaves k ≡ Some item
      → item.exact ≡ true → HasPoint player item.leaf
