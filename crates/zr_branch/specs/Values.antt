-- The values of an aim at points.
use Rattle.std.specs.Prelude.{◌≡◌, ℕ, ℤ, ◌*ℤ◌, ◌≤ℤ◌, List, length}
use Rattle.zr_base.specs.Fractions.{Fraction}
use Rattle.zr_base.specs.Points.{PointOf, num_of}
use Rattle.zr_base.specs.Sums.{sum_to}
use Rattle.zr_game.specs.Players.{PlayerOf}
use Rattle.zr_simplex.specs.Programs.{numbers}

-- `aim * p`
abbrev pub aim_value : PlayerOf → List ℤ → (ℕ → ℤ) → ℤ
aim_value player aim p = sum_to (length player.vars) (λ j. numbers aim j *ℤ p j)

-- the aim's value at the point is f
abbrev pub IsValue : PlayerOf → List ℤ → Fraction → PointOf → Type 0
IsValue player aim f x = f.num *ℤ x.den ≡ f.den *ℤ aim_value player aim (num_of x)

-- the aim's value at the point is at least f
abbrev pub IsNotBelow : PlayerOf → List ℤ → Fraction → PointOf → Type 0
IsNotBelow player aim f x = (f.num *ℤ x.den) ≤ℤ (f.den *ℤ aim_value player aim (num_of x))
