-- Boxes: bounds for the variables of all players.
use Rattle.std.specs.Prelude.{◌≡◌, ℕ, ◌==◌, ℤ, None, if◌then◌else◌, List, length, slice_get}
use Rattle.std.specs.Option.{option_map_or}
use Rattle.zr_base.specs.Points.{PointOf}
use Rattle.zr_game.specs.declared.leaf.Side.TheVariants.{Undecided}
use Rattle.zr_game.specs.Players.{GameOf, PlayerOf}
use Rattle.zr_game.specs.Costs.{point_of}
use Rattle.zr_game.specs.Feasible.{IsFeasible}
use Rattle.zr_game.specs.Forms.{IsPlayer}
use Rattle.zr_game.specs.Leaves.{LeafOf, MeetsLeaf, above, below, root_leaf}

-- a leaf for each player, by its number; in the box of all profiles, and where it is cut, every pair
-- is undecided
abbrev pub BoxOf : Type 0
BoxOf = ℕ → LeafOf

-- the leaf of a player that isn't there
abbrev pub no_leaf : LeafOf
no_leaf = record { low = λ v. None; high = λ v. None; side = λ p. Undecided }

-- the box of all profiles: the leaves of all points
abbrev pub root_box : GameOf → BoxOf
root_box game i = option_map_or root_leaf (slice_get game i) no_leaf

-- the box with another leaf for player i
abbrev pub with_leaf : BoxOf → ℕ → LeafOf → BoxOf
with_leaf box i leaf = λ k. if i == k then leaf else box k

-- where variable v of player i is at most `at`
abbrev pub cut_below : BoxOf → ℕ → ℕ → ℤ → BoxOf
cut_below box i v at = with_leaf box i (below (box i) v at)

-- where it is at least `at + 1`
abbrev pub cut_above : BoxOf → ℕ → ℕ → ℤ → BoxOf
cut_above box i v at = with_leaf box i (above (box i) v at)

-- a feasible point per player, each of which meets its player's rows with the box's bounds
pub record IsInBox (game : GameOf) (box : BoxOf) (points : List PointOf) : Type 0 where
  pub len : length points ≡ length game
  pub feasible : (k : ℕ) (player : PlayerOf) → IsPlayer game k player
      → IsFeasible player (point_of points k)
  pub inside : (k : ℕ) (player : PlayerOf) → IsPlayer game k player
      → MeetsLeaf player (box k) (point_of points k)
