-- The covers over whose leaves the system is decided, with what is named of the players.
use Rattle.std.specs.Prelude.{◌≡◌, ◌≢◌, ℕ, ◌+◌, ◌<◌, ◌≤◌, ◌⊎◌, pos, Some, List, [], length, slice_get, slice_index_or}
use Rattle.std.specs.List.{All, Contains}
use Rattle.zr_game.specs.Forms.{IsPlayer}
use Rattle.zr_game.specs.Named.{NamedOf, NamedPoint, NamedRay}
use Rattle.zr_game.specs.Players.{GameOf, PlayerOf}
use Rattle.zr_game.specs.Rays.{Direction, IsRelaxedRay, change_of}
use Rattle.zr_tree.specs.Trees.{TreeOf, Loose}
use Rattle.zr_asked.specs.Drawn.{IsDrawnRay}
use Rattle.zr_asked.specs.Stuck.{IsPlainAim}
use Rattle.zr_cover.specs.Covers.{HasNoLoose}
use Rattle.zr_naming.specs.Items.{IsNamedItem, IsStart, IsWideItem}
use Rattle.zr_naming.specs.Starts.{start_point}
use Rattle.zr_refute.specs.Covered.{covered}
use Rattle.zr_system.specs.Regions.{LeavesOf}
use Rattle.zr_system.specs.System.{cell_count}
use Rattle.zr_system.specs.Unknowns.{columns}
use Rattle.zr_decide.specs.Decided.{AreSmallCovers, cell_limit}

-- with one row more the system would have too many cells
abbrev pub IsFull : GameOf → LeavesOf → Type 0
IsFull game leaves = cell_limit < cell_count game leaves + length (columns game leaves)

-- the item is named; or a step of its test or of its row is too wide; or there is no room for it
abbrev pub IsNamedUnless : Type 0 → GameOf → ℕ → PlayerOf → List NamedOf → NamedOf → Type 0
IsNamedUnless full game i player items item =
    Contains items item ⊎ (IsWideItem game i player item ⊎ full)

-- so it is with a ray from the start point by a basic direction that changes variable v
pub record IsChangedUnless (full : Type 0) (game : GameOf) (i : ℕ) (player : PlayerOf)
    (items : List NamedOf) (v : ℕ) : Type 0 where
  pub dir : Direction
  pub changes : change_of dir v ≢ pos 0
  pub drawn : IsDrawnRay player (IsPlainAim player) dir
  pub named : IsNamedUnless full game i player items (NamedRay (start_point player) dir)

-- what is named of player i, whose cover is one loose leaf: feasible points and rays that are drawn
-- and have narrow rows. Where there are no pairs and the start point is feasible, that point is
-- named, and for each variable that a ray of the relaxation changes, a ray from there that changes it
pub record AreLooseItems (full : Type 0) (game : GameOf) (i : ℕ) (player : PlayerOf)
    (items : List NamedOf) : Type 0 where
  pub each : All (IsNamedItem game i player) items
  pub few : length items ≤ 65
  pub start : IsStart player
      → IsNamedUnless full game i player items (NamedPoint (start_point player))
  pub rays : IsStart player → (v : ℕ) (dir : Direction) → IsRelaxedRay player dir
      → change_of dir v ≢ pos 0 → IsChangedUnless full game i player items v

-- what is named of the players: of one whose cover is loose such items, and of the others nothing
pub record AreItemsOver (full : Type 0) (game : GameOf) (trees : List TreeOf)
    (named : List (List NamedOf)) : Type 0 where
  pub len : length named ≡ length game
  pub loose : (i : ℕ) (player : PlayerOf) → IsPlayer game i player
      → slice_get trees i ≡ Some Loose
      → AreLooseItems full game i player (slice_index_or named i [])
  pub others : (i : ℕ) (t : TreeOf) → slice_get trees i ≡ Some t → HasNoLoose t
      → slice_index_or named i [] ≡ []

-- the items leave out no more than there is no room for, over the leaves of these covers
abbrev pub AreNamedOver : GameOf → List TreeOf → List (List NamedOf) → Type 0
AreNamedOver game trees named = AreItemsOver (IsFull game (covered game trees named)) game trees named

-- decided covers, and what is named over their leaves; neither with it nor without has the system
-- too many cells
pub record AreNamedCovers (game : GameOf) (trees : List TreeOf)
    (named : List (List NamedOf)) : Type 0 where
  pub small : AreSmallCovers game trees
  pub items : AreNamedOver game trees named
  pub within : cell_count game (covered game trees named) ≤ cell_limit
