-- The terms of a player's cost at one point per player.
use Rattle.std.specs.Prelude.{ℕ, ◌<◌, length, List}
use Rattle.std.specs.Option.{ForSome}
use Rattle.zr_base.specs.Fractions.{Fraction}
use Rattle.zr_base.specs.Points.{PointOf, value_of}
use Rattle.zr_game.specs.declared.player.CrossTerm.{CrossTerm}
use Rattle.zr_game.specs.declared.player.Other.{Other}
use Rattle.zr_game.specs.Costs.{cross_at, other_at, point_of, value_at_place}

-- the points of player i and of the term's player have the term's variables
pub record IsTermAt (i : ℕ) (points : List PointOf) (t : CrossTerm) : Type 0 where
  pub here : i < length points
  pub there : t.player < length points
  pub own : t.own < length (point_of points i).num
  pub var : t.var < length (point_of points t.player).num

-- its number times the own value times the other player's value
abbrev pub cross_value : ℕ → List PointOf → CrossTerm → Fraction
cross_value i points = cross_at (value_of (point_of points i)) (value_at_place points)

-- the points have the variable at this place
abbrev pub HasPlace : List PointOf → ℕ × ℕ → Type 0
HasPlace points at = (at.0 < length points) × (at.1 < length (point_of points at.0).num)

-- the points have the variables of a term in the others' variables
abbrev pub IsOtherAt : List PointOf → Other → Type 0
IsOtherAt points t = HasPlace points t.first × ForSome t.second (HasPlace points)

-- its number times its first value, and times its second, if there is one
abbrev pub other_value : List PointOf → Other → Fraction
other_value points = other_at (value_at_place points)
