-- The points and rays that are named of a player whose cover is loose.
use Rattle.std.specs.Prelude.{◌≡◌, ◌≢◌, ℕ, ◌≤◌, ◌⊎◌, pos, Option, Some, None, List, [], length}
use Rattle.std.specs.List.{All, Contains}
use Rattle.zr_base.specs.declared.step.Wide.{Wide}
use Rattle.zr_base.specs.Points.{PointOf}
use Rattle.zr_game.specs.FeasibleSteps.{feasible_wide}
use Rattle.zr_game.specs.Feasible.{IsFeasible}
use Rattle.zr_game.specs.Named.{IsNamed, NamedOf, NamedPoint, NamedRay}
use Rattle.zr_game.specs.Players.{GameOf, PlayerOf}
use Rattle.zr_game.specs.RaySteps.{ray_wide}
use Rattle.zr_game.specs.Rays.{Direction, IsRelaxedRay, change_of}
use Rattle.zr_asked.specs.Drawn.{IsDrawnRay}
use Rattle.zr_asked.specs.Stuck.{IsPlainAim}
use Rattle.zr_cert.specs.Forms as text
use Rattle.zr_system.specs.Asked.{HasWideItem, HaveLeaves, IsNamedForm}
use Rattle.zr_system.specs.Regions.{LeavesOf}
use Rattle.zr_naming.specs.Starts.{start_point}

-- the start point, or a ray there whose direction is a basic one of a question with a plain aim
abbrev pub IsDrawnItem : PlayerOf → NamedOf → Type 0
IsDrawnItem player (NamedPoint x) = x ≡ start_point player
IsDrawnItem player (NamedRay base dir) =
    (base ≡ start_point player) × IsDrawnRay player (IsPlainAim player) dir

-- the first wide step of the item's test
abbrev pub test_wide : PlayerOf → NamedOf → Option Wide
test_wide player (NamedPoint x) = feasible_wide player x
test_wide player (NamedRay base dir) = ray_wide player base dir

-- no step of the item's row is too wide, whatever the leaves
abbrev pub IsNarrowItem : GameOf → ℕ → NamedOf → Type 0
IsNarrowItem game i item =
    (leaves : LeavesOf) (w : Wide) → HasWideItem game leaves i item w → ⊥

-- a step of the item's test is too wide, or one of its row wherever each player has a leaf
abbrev pub IsWideItem : GameOf → ℕ → PlayerOf → NamedOf → Type 0
IsWideItem game i player item =
    ((w : Wide) × (test_wide player item ≡ Some w))
    ⊎ ((leaves : LeavesOf) → HaveLeaves game leaves
    → (w : Wide) × HasWideItem game leaves i item w)

-- what each named item is: a feasible point or a ray, drawn from a question, with a narrow row
pub record IsNamedItem (game : GameOf) (i : ℕ) (player : PlayerOf) (item : NamedOf) : Type 0 where
  pub right : IsNamed player item
  pub drawn : IsDrawnItem player item
  pub form : IsNamedForm (length player.vars) item
  pub text_form : text.IsNamedForm item
  pub narrow : IsNarrowItem game i item

-- the start point has its test, without a wide step, and is feasible; and there are no pairs
pub record IsStart (player : PlayerOf) : Type 0 where
  pub pairs : player.pairs ≡ []
  pub feasible : IsFeasible player (start_point player)
  pub narrow : feasible_wide player (start_point player) ≡ None

-- a ray from the start point that changes variable v is named; or a basic direction changes it, and
-- the ray has a wide step
pub record IsChanged (game : GameOf) (i : ℕ) (player : PlayerOf) (items : List NamedOf)
    (v : ℕ) : Type 0 where
  pub dir : Direction
  pub changes : change_of dir v ≢ pos 0
  pub drawn : IsDrawnRay player (IsPlainAim player) dir
  pub named : Contains items (NamedRay (start_point player) dir)
      ⊎ IsWideItem game i player (NamedRay (start_point player) dir)

-- the items that are named of player i: each is one, they are few, and where the start point is
-- feasible it is named, and each variable that a ray of the relaxation changes is changed by one
pub record AreNamedItems (game : GameOf) (i : ℕ) (player : PlayerOf)
    (items : List NamedOf) : Type 0 where
  pub each : All (IsNamedItem game i player) items
  pub few : length items ≤ 65
  pub start : IsStart player → Contains items (NamedPoint (start_point player))
      ⊎ IsWideItem game i player (NamedPoint (start_point player))
  pub rays : IsStart player → (v : ℕ) (dir : Direction) → IsRelaxedRay player dir
      → change_of dir v ≢ pos 0 → IsChanged game i player items v
