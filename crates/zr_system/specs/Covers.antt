-- What leaves owe the system: together they hold all of a player's feasible points.
use Rattle.std.specs.Prelude.{◌≡◌, ℕ, ◌<◌, pos, ◌<ℤ◌, true, Some, length}
use Rattle.std.specs.List.{All}
use Rattle.zr_base.specs.Points.{PointOf}
use Rattle.zr_game.specs.Feasible.{IsFeasible}
use Rattle.zr_game.specs.Forms.{IsPlayer}
use Rattle.zr_game.specs.Leaves.{Bound, BoundHolds, slot_of}
use Rattle.zr_game.specs.Named.{IsNamed}
use Rattle.zr_game.specs.Players.{GameOf, PlayerOf}
use Rattle.zr_system.specs.Regions.{LeavesOf, all_slots, is_exact, leaf_count, named_at, player_at, var_count}

-- the point has a number for each variable, and meets the row of each present slot of leaf k
pub record LiesIn (game : GameOf) (leaves : LeavesOf) (i k : ℕ) (x : PointOf) : Type 0 where
  pub point : (pos 0) <ℤ x.den
  pub len : length x.num ≡ var_count game i
  pub rows : (s : ℕ) (row : Bound) → slot_of (all_slots game leaves i k) s ≡ Some row
      → BoundHolds (player_at game i) x row

-- each feasible point of player i lies in one of its leaves; each point of a leaf that counts as
-- exact is feasible, and there is one; and what is named is a feasible point, or a ray at one
pub record IsCover (game : GameOf) (leaves : LeavesOf) (i : ℕ) (player : PlayerOf) : Type 0 where
  pub covers : (x : PointOf) → IsFeasible player x
      → (k : ℕ) × (k < leaf_count leaves i) × LiesIn game leaves i k x
  pub settled : (k : ℕ) → k < leaf_count leaves i → is_exact leaves i k ≡ true → (x : PointOf)
      → LiesIn game leaves i k x → IsFeasible player x
  pub has_point : (k : ℕ) → k < leaf_count leaves i → is_exact leaves i k ≡ true
      → (x : PointOf) × LiesIn game leaves i k x
  pub named : All (IsNamed player) (named_at leaves i)

-- each player's leaves are such
abbrev pub AreCovers : GameOf → LeavesOf → Type 0
AreCovers game leaves =
    (i : ℕ) (player : PlayerOf) → IsPlayer game i player → IsCover game leaves i player

-- every leaf counts as exact
abbrev pub AreExact : GameOf → LeavesOf → Type 0
AreExact game leaves =
    (i k : ℕ) → i < length game → k < leaf_count leaves i → is_exact leaves i k ≡ true
