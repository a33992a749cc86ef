-- Boxes to which paths of the players' own splits lead.
use Rattle.std.specs.Prelude.{◌≡◌, ◌≢◌, ℕ, ◌<◌, ℤ, ◌≤ℤ◌, Vec, List, [], ◌∷◌, ◌++◌, Some, map, length, slice_get, slice_index_or}
use Rattle.std.specs.List.{All}
use Rattle.std.specs.Option.{option_map_or}
use Rattle.std.specs.declared.alloc.Global.{Global}
use Rattle.zr_game.specs.declared.leaf.Leaf.{Leaf}
use Rattle.zr_game.specs.Players.{GameOf, PlayerOf}
use Rattle.zr_game.specs.Forms.{IsNumber, IsPlayer}
use Rattle.zr_game.specs.Leaves.{IsLeafOf, LeafOf, leaf_of}
use Rattle.zr_asked.specs.declared.question.Move.{Move}
use Rattle.zr_asked.specs.Paths.{IsOpenPath, branch}
use Rattle.zr_branch.specs.Replies.{IsMoveForm}
use Rattle.zr_boxes.specs.Boxes.{BoxOf, no_leaf}

-- a path for each player
abbrev pub Paths : Type 0
Paths = List (List Move)

abbrev pub moves_of : List (Vec Move Global) → Paths
moves_of paths = map (λ path. path.items) paths

-- the path of player k
abbrev pub path_at : Paths → ℕ → List Move
path_at paths k = slice_index_or paths k []

-- the box to which the paths lead
abbrev pub box_by : GameOf → Paths → BoxOf
box_by game paths k =
    option_map_or (λ player. branch player (path_at paths k)) (slice_get game k) no_leaf

-- the boxes that are due, the one that is next first
abbrev pub due_on : List Paths → List (Vec (Vec Move Global) Global) → List Paths
due_on done [] = done
due_on done (box ∷ boxes) = due_on (moves_of box.items ∷ done) boxes

abbrev pub due_of : List (Vec (Vec Move Global) Global) → List Paths
due_of boxes = due_on [] boxes

-- both bounds of variable v are there, in order and within the limit of a game's numbers
pub record IsRanged (leaf : LeafOf) (v : ℕ) : Type 0 where
  pub low : ℤ
  pub high : ℤ
  pub low_is : leaf.low v ≡ Some low
  pub high_is : leaf.high v ≡ Some high
  pub least : IsNumber low
  pub greatest : IsNumber high
  pub ordered : low ≤ℤ high

-- so is each variable's range in the box
abbrev pub AreRanged : GameOf → BoxOf → Type 0
AreRanged game box = (k : ℕ) (player : PlayerOf) → IsPlayer game k player → (v : ℕ)
    → v < length player.vars → IsRanged (box k) v

-- an open path for each player, with splits at numbers that a tree may have; and the ranges
pub record LeadsToBox (game : GameOf) (paths : Paths) : Type 0 where
  pub len : length paths ≡ length game
  pub open_is : (k : ℕ) (player : PlayerOf) → IsPlayer game k player
      → IsOpenPath player (path_at paths k)
  pub forms : (k : ℕ) (player : PlayerOf) → IsPlayer game k player
      → All IsMoveForm (path_at paths k)
  pub ranged : AreRanged game (box_by game paths)

-- the new paths are the old ones, with one step more for player i
pub record AddsMove (old : Paths) (i : ℕ) (step : Move) (new : Paths) : Type 0 where
  pub len : length new ≡ length old
  pub others : (k : ℕ) → k ≢ i → path_at new k ≡ path_at old k
  pub own : path_at new i ≡ path_at old i ++ step ∷ []

-- the leaves of the first n players' parts of the box
pub record AreLeaves (game : GameOf) (paths : Paths) (n : ℕ) (leaves : List Leaf) : Type 0 where
  pub len : length leaves ≡ n
  pub each : (k : ℕ) (player : PlayerOf) → IsPlayer game k player → k < n
      → (leaf : Leaf) × (slice_get leaves k ≡ Some leaf) × IsLeafOf player leaf
      × (leaf_of leaf ≡ branch player (path_at paths k))

-- the box of all profiles is the next one, with no moves for each of so many players
abbrev pub AddsRoot : ℕ → List Paths → List Paths → Type 0
AddsRoot count old new =
    (root : Paths) × (length root ≡ count) × ((k : ℕ) → path_at root k ≡ [])
    × (new ≡ root ∷ old)
