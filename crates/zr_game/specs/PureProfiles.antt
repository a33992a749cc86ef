-- The points of a pure profile, and when no player gains by playing another point.
use Rattle.std.specs.Prelude.{ℕ, pos, List, [], ◌∷◌, map, slice_set}
use Rattle.zr_base.specs.Fractions.{IsAtMost}
use Rattle.zr_base.specs.Points.{PointOf}
use Rattle.zr_game.specs.Players.{GameOf, PlayerOf}
use Rattle.zr_game.specs.Forms.{IsPlayer}
use Rattle.zr_game.specs.Feasible.{IsFeasible}
use Rattle.zr_game.specs.Costs.{cost_of}
use Rattle.zr_game.specs.Profiles.{Profile, Strategy}

-- the point of a strategy's first part
abbrev pub first_point : Strategy → PointOf
first_point [] = record { num = []; den = pos 1 }
first_point (part ∷ parts) = part.point

-- one point per player
abbrev pub points_of : Profile → List PointOf
points_of profile = map first_point profile

-- no player has a feasible point at which its cost is smaller, the other players' points being as
-- they are
abbrev pub IsStableAt : GameOf → List PointOf → Type 0
IsStableAt game points =
    (i : ℕ) (player : PlayerOf) → IsPlayer game i player → (x : PointOf) → IsFeasible player x
    → IsAtMost (cost_of player i points) (cost_of player i (slice_set points i x))
