-- Points and rays of a player that are named.
use Rattle.zr_base.specs.Points.{PointOf}
use Rattle.zr_game.specs.Players.{PlayerOf}
use Rattle.zr_game.specs.Feasible.{IsFeasible}
use Rattle.zr_game.specs.Rays.{Direction, IsRay}
use Rattle.zr_game.specs.declared.named.Named.{Named}
use Rattle.zr_game.specs.declared.named.Named.TheVariants.{Point, Ray}

pub data NamedOf : Type 0 where
  NamedPoint : PointOf → NamedOf
  NamedRay : PointOf → Direction → NamedOf

abbrev pub named_of : Named → NamedOf
named_of (Point point) = NamedPoint point
named_of (Ray base dir) = NamedRay base dir.items

-- a feasible point, or a ray at a feasible base
abbrev pub IsNamed : PlayerOf → NamedOf → Type 0
IsNamed player (NamedPoint x) = IsFeasible player x
IsNamed player (NamedRay base dir) = IsRay player base dir
