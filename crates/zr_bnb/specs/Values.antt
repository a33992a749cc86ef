-- The least value of an aim on a player's points.
use Rattle.std.specs.Prelude.{ℤ, neg_ℤ, ◌*ℤ◌, List, map}
use Rattle.zr_base.specs.Fractions.{Fraction}
use Rattle.zr_base.specs.Lowest.{IsLowest}
use Rattle.zr_base.specs.Points.{PointOf}
use Rattle.zr_game.specs.Players.{PlayerOf}
use Rattle.zr_game.specs.Feasible.{IsFeasible}
use Rattle.zr_game.specs.Leaves.{Bound}
use Rattle.zr_simplex.specs.Programs.{numbers}
use Rattle.zr_branch.specs.Values.{IsNotBelow, IsValue}

-- the feasible point x has the aim's value f, in lowest terms, and no feasible point a lower one
pub record IsLeastAt (player : PlayerOf) (aim : List ℤ) (f : Fraction) (x : PointOf) : Type 0 where
  pub lowest : IsLowest f
  pub feasible : IsFeasible player x
  pub value : IsValue player aim f x
  pub least : (y : PointOf) → IsFeasible player y → IsNotBelow player aim f y

-- f is the aim's least value on the player's points, and one of them has it
abbrev pub IsLeastValue : PlayerOf → List ℤ → Fraction → Type 0
IsLeastValue player aim f = (x : PointOf) × IsLeastAt player aim f x

-- the aim times the denominator of f
abbrev pub scaled_aim : Fraction → List ℤ → List ℤ
scaled_aim f aim = map (λ z. f.den *ℤ z) aim

-- the row that says that the aim is at least f: `-(den * aim) * x <= -num`
abbrev pub least_row : List ℤ → Fraction → Bound
least_row aim f = record { coef = λ j. neg_ℤ (f.den *ℤ numbers aim j); le = neg_ℤ f.num }
