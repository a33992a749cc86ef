-- Strategies under which every quantity of points has the same expected value.
use Rattle.std.specs.Prelude.{ℕ, ◌<◌, pos, ◌<ℤ◌, length}
use Rattle.zr_base.specs.Fractions.{Fraction, IsSame, over}
use Rattle.zr_base.specs.Points.{IsSamePoint, PointOf}
use Rattle.zr_game.specs.Profiles.{Profile, Strategy, strategy_of, total, weighted}

-- the fraction has a positive denominator at each point, and the same value at points that are the
-- same
pub record IsQuantity (f : PointOf → Fraction) : Type 0 where
  pub positive : (x : PointOf) → (pos 0) <ℤ x.den → (pos 0) <ℤ (f x).den
  pub same : (x y : PointOf) → IsSamePoint x y → IsSame (f x) (f y)

-- every quantity has the same expected value under both
abbrev pub IsAlike : Strategy → Strategy → Type 0
IsAlike a b = (f : PointOf → Fraction) → IsQuantity f
    → IsSame (over (weighted a f) (total a)) (over (weighted b f) (total b))

-- each player's strategies are alike
abbrev pub AreAlike : Profile → Profile → Type 0
AreAlike p q = (i : ℕ) → i < length p → IsAlike (strategy_of p i) (strategy_of q i)
