-- Where a walk through a box tree stands: the current box, and the nodes above it with what they
-- changed.
use Rattle.std.specs.Prelude.{◌≡◌, ℕ, zero, suc, ◌<◌, ◌≤◌, ℤ, ◌≤ℤ◌, Option, None, List, [], ◌∷◌, ◌++◌, length, map, slice_get, slice_index_or, ◌⊎◌}
use Rattle.std.specs.Option.{option_map_or}
use Rattle.zr_game.specs.declared.leaf.Leaf.{Leaf}
use Rattle.zr_game.specs.Players.{GameOf, PlayerOf}
use Rattle.zr_game.specs.Forms.{IsPlayer}
use Rattle.zr_game.specs.Leaves.{leaf_of}
use Rattle.zr_tree.specs.Form.{greatest_split}
use Rattle.zr_tree.specs.Paths.{with_high, with_low}
use Rattle.zr_boxes.specs.Boxes.{BoxOf, cut_above, no_leaf, with_leaf}
use Rattle.zr_boxes.specs.Places.{BoxPlaces, FitsGame, leaf_size}
use Rattle.zr_boxes.specs.declared.path.Frame.{Frame}
use Rattle.zr_boxes.specs.declared.path.Frame.TheVariants.{First, Second}
use Rattle.zr_boxes.specs.declared.path.Path.{Path}

-- the box of these leaves
abbrev pub box_of : List Leaf → BoxOf
box_of leaves i = option_map_or leaf_of (slice_get leaves i) no_leaf

-- with this high bound of variable v of player i
abbrev pub set_high : BoxOf → ℕ → ℕ → Option ℤ → BoxOf
set_high box i v high = with_leaf box i (with_high (box i) v high)

-- with this low bound of it
abbrev pub set_low : BoxOf → ℕ → ℕ → Option ℤ → BoxOf
set_low box i v low = with_leaf box i (with_low (box i) v low)

-- the first n frames, the last of them first
abbrev pub stack : List Frame → ℕ → List Frame
stack frames zero = []
stack frames (suc n) = slice_index_or frames n (Second 0 0 None) ∷ stack frames n

-- the frames above the current box, the nearest first
abbrev pub frames_of : Path → List Frame
frames_of path = stack path.frames.items path.depth

-- the boxes of the second children that are still due, the nearest first
abbrev pub due_boxes : BoxOf → List Frame → List BoxOf
due_boxes box [] = []
due_boxes box (First i v at high ∷ frames) =
    cut_above (set_high box i v high) i v at ∷ due_boxes (set_high box i v high) frames
due_boxes box (Second i v low ∷ frames) = due_boxes (set_low box i v low) frames

abbrev pub due_of : Path → List BoxOf
due_of path = due_boxes (box_of path.leaves.items) (frames_of path)

-- these boxes are left, and the first of them is the current one; or none is left
abbrev pub IsAt : Path → List BoxOf → Type 0
IsAt path boxes = (boxes ≡ []) ⊎ (boxes ≡ box_of path.leaves.items ∷ due_of path)

-- the game has a player i with a variable v
abbrev pub HasOwnVar : GameOf → ℕ → ℕ → Type 0
HasOwnVar game i v = (player : PlayerOf) × IsPlayer game i player × (v < length player.vars)

-- a frame names a variable of a player
abbrev pub IsFrame : GameOf → Frame → Type 0
IsFrame game (First i v at high) = HasOwnVar game i v × (at ≤ℤ greatest_split)
IsFrame game (Second i v low) = HasOwnVar game i v

abbrev pub AreFrames : GameOf → List Frame → Type 0
AreFrames game [] = Unit {0}
AreFrames game (frame ∷ frames) = IsFrame game frame × AreFrames game frames

-- the places of a path
abbrev pub places_of : Path → BoxPlaces
places_of path = record {
  nodes = length path.frames.items;
  leaves = map leaf_size path.leaves.items;
}

pub record IsPathOf (game : GameOf) (path : Path) : Type 0 where
  pub fits : FitsGame game (places_of path)
  pub frames : AreFrames game (frames_of path)
  pub depth : path.depth ≤ length path.frames.items

-- the walk went on from a node to its children, or, where it has none, to the next box that is due
pub record Entered (game : GameOf) (children : List BoxOf) (old new : Path) : Type 0 where
  pub due : IsAt new (children ++ due_of old)
  pub path : IsPathOf game new
  pub places : places_of new ≡ places_of old
  pub depth : new.depth ≤ suc old.depth
