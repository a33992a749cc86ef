-- Points: whole numbers over one denominator.
use Rattle.std.specs.Prelude.{◌≡◌, ℕ, ℤ, pos, ◌<ℤ◌, List, length, slice_index_or}
use Rattle.std.specs.List.{All}
use Rattle.zr_base.specs.Steps.{IsNarrow}
use Rattle.zr_base.specs.Fractions.{Fraction, HaveSameCross}

-- the point with the values `num / den`
pub record PointOf : Type 0 where
  pub num : List ℤ
  pub den : ℤ

-- the denominator is above zero, and all numbers are narrow
abbrev pub IsPoint : List ℤ → ℤ → Type 0
IsPoint num den = ((pos 0) <ℤ den) × IsNarrow den × All IsNarrow num

-- the numerator of variable v
abbrev pub num_of : PointOf → ℕ → ℤ
num_of x v = slice_index_or x.num v (pos 0)

-- the value of variable v
abbrev pub value_of : PointOf → ℕ → Fraction
value_of x v = record { num = num_of x v; den = x.den }

-- both have denominators above zero, and the same values
pub record IsSamePoint (x y : PointOf) : Type 0 where
  pub left : (pos 0) <ℤ x.den
  pub right : (pos 0) <ℤ y.den
  pub len : length x.num ≡ length y.num
  pub values : (v : ℕ) → HaveSameCross (value_of x v) (value_of y v)
