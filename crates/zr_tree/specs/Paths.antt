-- Where a walk through a tree stands: the current leaf, and the nodes above it with what they changed.
use Rattle.std.specs.Prelude.{◌≡◌, ℕ, zero, suc, ◌==◌, ◌<◌, ◌≤◌, ℤ, pos, ◌≤ℤ◌, Option, if◌then◌else◌, List, [], ◌∷◌, ◌++◌, length, slice_index_or, ◌⊎◌}
use Rattle.zr_game.specs.declared.leaf.Leaf.{Leaf}
use Rattle.zr_game.specs.declared.leaf.Side.TheVariants.{Undecided, RowZero}
use Rattle.zr_game.specs.Players.{PlayerOf}
use Rattle.zr_game.specs.Leaves.{LeafOf, above, decided, leaf_of}
use Rattle.zr_tree.specs.declared.path.Frame.{Frame}
use Rattle.zr_tree.specs.declared.path.Frame.TheVariants.{FirstOfSplit, SecondOfSplit, FirstOfChoice, SecondOfChoice}
use Rattle.zr_tree.specs.declared.path.Path.{Path}

-- with this high bound of variable v
abbrev pub with_high : LeafOf → ℕ → Option ℤ → LeafOf
with_high leaf v high = record leaf { high = λ w. if v == w then high else leaf.high w }

-- with this low bound of variable v
abbrev pub with_low : LeafOf → ℕ → Option ℤ → LeafOf
with_low leaf v low = record leaf { low = λ w. if v == w then low else leaf.low w }

-- the first n frames, the last of them first
abbrev pub stack : List Frame → ℕ → List Frame
stack frames zero = []
stack frames (suc n) = slice_index_or frames n (SecondOfChoice 0) ∷ stack frames n

-- the frames above the current leaf, the nearest first
abbrev pub frames_of : Path → List Frame
frames_of path = stack path.frames.items path.depth

-- the leaves of the second children that are still due, the nearest first
abbrev pub due_leaves : LeafOf → List Frame → List LeafOf
due_leaves leaf [] = []
due_leaves leaf (FirstOfSplit v at high ∷ frames) = above (with_high leaf v high) v at ∷ due_leaves (with_high leaf v high) frames
due_leaves leaf (SecondOfSplit v low ∷ frames) = due_leaves (with_low leaf v low) frames
due_leaves leaf (FirstOfChoice p ∷ frames) = decided leaf p RowZero ∷ due_leaves (decided leaf p Undecided) frames
due_leaves leaf (SecondOfChoice p ∷ frames) = due_leaves (decided leaf p Undecided) frames

abbrev pub due_of : Path → List LeafOf
due_of path = due_leaves (leaf_of path.leaf) (frames_of path)

-- these leaves are left, and the first of them is the current one; or none is left
abbrev pub IsAt : Path → List LeafOf → Type 0
IsAt path leaves = (leaves ≡ []) ⊎ (leaves ≡ leaf_of path.leaf ∷ due_of path)

-- a frame names a variable or a pair of the player
abbrev pub IsFrame : PlayerOf → Frame → Type 0
IsFrame player (FirstOfSplit v at high) = (v < length player.vars) × (at ≤ℤ pos 4611686018427387903)
IsFrame player (SecondOfSplit v low) = v < length player.vars
IsFrame player (FirstOfChoice p) = p < length player.pairs
IsFrame player (SecondOfChoice p) = p < length player.pairs

abbrev pub AreFrames : PlayerOf → List Frame → Type 0
AreFrames player [] = Unit {0}
AreFrames player (frame ∷ frames) = IsFrame player frame × AreFrames player frames

-- the leaf has places for the player's variables and pairs
pub record HasPlaces (player : PlayerOf) (leaf : Leaf) : Type 0 where
  pub lows : length player.vars ≤ length leaf.low.items
  pub highs : length player.vars ≤ length leaf.high.items
  pub sides : length player.pairs ≤ length leaf.sides.items

pub record IsPathOf (player : PlayerOf) (path : Path) : Type 0 where
  pub places : HasPlaces player path.leaf
  pub frames : AreFrames player (frames_of path)
  pub depth : path.depth ≤ length path.frames.items

-- both have the same numbers of places
pub record IsSameSize (old new : Path) : Type 0 where
  pub lows : length new.leaf.low.items ≡ length old.leaf.low.items
  pub highs : length new.leaf.high.items ≡ length old.leaf.high.items
  pub sides : length new.leaf.sides.items ≡ length old.leaf.sides.items
  pub frames : length new.frames.items ≡ length old.frames.items

-- the walk went on from a node to its children, or, where it has none, to the next leaf that is due
pub record Entered (player : PlayerOf) (children : List LeafOf) (old new : Path) : Type 0 where
  pub due : IsAt new (children ++ due_of old)
  pub path : IsPathOf player new
  pub size : IsSameSize old new
  pub depth : new.depth ≤ suc old.depth
