-- The steps by which a cost is made, each of which may be too wide.
use Rattle.std.specs.Prelude.{◌≡◌, ℕ, ℤ, pos, length, Option, Some, None, Result, Ok, List, [], ◌∷◌}
use Rattle.zr_base.specs.declared.step.Wide.{Wide}
use Rattle.zr_base.specs.Steps.{◌>>=◌}
use Rattle.zr_base.specs.Fractions.{Fraction, whole}
use Rattle.zr_base.specs.Lowest.{reduce, add_of, mul_of}
use Rattle.zr_base.specs.Points.{PointOf, num_of}
use Rattle.zr_game.specs.declared.player.CrossTerm.{CrossTerm}
use Rattle.zr_game.specs.declared.player.Other.{Other}
use Rattle.zr_game.specs.Players.{GameOf, PlayerOf}
use Rattle.zr_game.specs.Forms.{IsPlayer}
use Rattle.zr_game.specs.Costs.{point_of}

-- one point of the right length per player
pub record ArePoints (game : GameOf) (points : List PointOf) : Type 0 where
  pub len : length points ≡ length game
  pub lens : (k : ℕ) (player : PlayerOf) → IsPlayer game k player
      → length (point_of points k).num ≡ length player.vars

-- a times the value of variable v at x, which is taken in lowest terms
abbrev pub times_value : Fraction → PointOf → ℕ → Result Fraction Wide
times_value a x v = mul_of a (reduce (num_of x v) x.den)

-- a number times an own value
abbrev pub own_term : PointOf → ℕ × ℤ → Result Fraction Wide
own_term x t = times_value (whole t.1) x t.0

-- a number times an own value, and that times another player's value
abbrev pub cross_term : ℕ → List PointOf → CrossTerm → Result Fraction Wide
cross_term i points t = do
  first ← own_term (point_of points i) (t.own, t.coef)
  times_value first (point_of points t.player) t.var

-- a times the value of the variable at the place, if there is one
abbrev pub times_place : List PointOf → Fraction → Option (ℕ × ℕ) → Result Fraction Wide
times_place points a None = Ok a
times_place points a (Some at) = times_value a (point_of points at.0) at.1

-- a number times the first value, and that times the second, if there is one
abbrev pub other_term : List PointOf → Other → Result Fraction Wide
other_term points t = do
  first ← times_value (whole t.coef) (point_of points t.first.0) t.first.1
  times_place points first t.second

-- the sum from s on of what is made of each item in turn
abbrev pub sum_made : {A : Type 0} → (A → Result Fraction Wide) → Fraction → List A
    → Result Fraction Wide
sum_made make s [] = Ok s
sum_made make s (x ∷ xs) = make x >>= λ a. add_of s a >>= λ r. sum_made make r xs

-- from 0 on the own terms, then the cross terms, and then the terms in the others' variables alone
abbrev pub cost_steps : PlayerOf → ℕ → List PointOf → Result Fraction Wide
cost_steps player i points = do
  own ← sum_made (own_term (point_of points i)) (whole (pos 0)) player.cost
  crossed ← sum_made (cross_term i points) own player.cross
  sum_made (other_term points) crossed player.others
