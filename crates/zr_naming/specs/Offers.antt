-- What becomes of an item that is offered, and of a variable.
use Rattle.std.specs.Prelude.{◌≡◌, ◌≢◌, ℕ, ◌+◌, ◌<◌, ◌≤◌, ◌⊎◌, ℤ, pos, ◌*ℤ◌, ◌<ℤ◌, Option, Some, None, List, [], ◌∷◌, ◌++◌, length}
use Rattle.std.specs.List.{All, Contains}
use Rattle.zr_game.specs.Named.{IsNamed, NamedOf, NamedPoint, NamedRay, named_of}
use Rattle.zr_game.specs.declared.named.Named.{Named}
use Rattle.zr_game.specs.Players.{GameOf, PlayerOf}
use Rattle.zr_game.specs.Rays.{Direction, IsRelaxedRay, change_of}
use Rattle.zr_asked.specs.Drawn.{IsDrawnRay}
use Rattle.zr_asked.specs.Stuck.{IsPlainAim}
use Rattle.zr_naming.specs.Items.{IsChanged, IsNamedItem, IsStart, IsWideItem}
use Rattle.zr_naming.specs.Starts.{start_point}

-- the item itself, which is then a named one; or none, and if it is a point or a ray it has a wide
-- step
abbrev pub IsOffered : GameOf → ℕ → PlayerOf → NamedOf → Option Named → Type 0
IsOffered game i player item None = IsNamed player item → IsWideItem game i player item
IsOffered game i player item (Some named) =
    (named_of named ≡ item) × IsNamedItem game i player item

-- the ray changes the variable
abbrev pub ItemChanges : ℕ → NamedOf → Type 0
ItemChanges v (NamedPoint x) = ⊥
ItemChanges v (NamedRay base dir) = change_of dir v ≢ pos 0

-- a basic direction changes the variable, and has a wide step from the start point
pub record HasWideRay (game : GameOf) (i : ℕ) (player : PlayerOf) (v : ℕ) : Type 0 where
  pub dir : Direction
  pub changes : change_of dir v ≢ pos 0
  pub drawn : IsDrawnRay player (IsPlainAim player) dir
  pub wide : IsWideItem game i player (NamedRay (start_point player) dir)

-- z times the variable falls along the direction
abbrev pub Falls : ℕ → ℤ → Direction → Type 0
Falls v z dir = (z *ℤ change_of dir v) <ℤ (pos 0)

-- a named item that changes the variable; or none, and if z times it falls along a ray of the
-- relaxation, one with a wide step changes it
abbrev pub IsFoundFor : GameOf → ℕ → PlayerOf → ℕ → ℤ → Option Named → Type 0
IsFoundFor game i player v z None =
    IsStart player → (dir : Direction) → IsRelaxedRay player dir → Falls v z dir
    → HasWideRay game i player v
IsFoundFor game i player v z (Some named) =
    IsNamedItem game i player (named_of named) × ItemChanges v (named_of named)

-- the same for any ray of the relaxation that changes the variable
abbrev pub IsFound : GameOf → ℕ → PlayerOf → ℕ → Option Named → Type 0
IsFound game i player v None =
    IsStart player → (dir : Direction) → IsRelaxedRay player dir → change_of dir v ≢ pos 0
    → HasWideRay game i player v
IsFound game i player v (Some named) =
    IsNamedItem game i player (named_of named) × ItemChanges v (named_of named)

-- the items with one that was found
abbrev pub with_found : List NamedOf → Option Named → List NamedOf
with_found items None = items
with_found items (Some named) = items ++ named_of named ∷ []

-- what the items keep while the variables below v were gone through
pub record AreNamedBelow (game : GameOf) (i : ℕ) (player : PlayerOf) (v : ℕ)
    (items : List NamedOf) : Type 0 where
  pub each : All (IsNamedItem game i player) items
  pub few : length items ≤ 1 + v
  pub start : IsStart player → Contains items (NamedPoint (start_point player))
      ⊎ IsWideItem game i player (NamedPoint (start_point player))
  pub rays : IsStart player → (w : ℕ) → w < v → (dir : Direction) → IsRelaxedRay player dir
      → change_of dir w ≢ pos 0 → IsChanged game i player items w
