-- Points in lowest terms, and their order.
use Rattle.std.specs.Prelude.{◌≡◌, ℕ, ◌<◌, ℤ, pos, ◌<ℤ◌, int_div, unsigned_abs, length, map}
use Rattle.std.specs.Int.{◌∣◌}
use Rattle.std.specs.declared.cmp.Ordering.{Ordering}
use Rattle.std.specs.declared.cmp.Ordering.TheVariants.{Less, Equal, Greater}
use Rattle.zr_base.specs.Fractions.{Fraction, IsLess, IsSame}
use Rattle.zr_base.specs.Points.{IsSamePoint, PointOf, num_of, value_of}

-- the number divides the denominator and all numbers of the point
abbrev pub DividesPoint : ℕ → PointOf → Type 0
DividesPoint d x =
    (d ∣ unsigned_abs x.den) × ((v : ℕ) → v < length x.num → d ∣ unsigned_abs (num_of x v))

-- a denominator above zero, and no number above 1 divides it and all numbers
pub record IsLowestPoint (x : PointOf) : Type 0 where
  pub den : (pos 0) <ℤ x.den
  pub coprime : (d : ℕ) → DividesPoint d x → d ≡ 1

-- the greatest number that divides the point: a multiple of every other
pub record IsGreatestDivisor (z : ℤ) (x : PointOf) : Type 0 where
  pub positive : (pos 0) <ℤ z
  pub divides : DividesPoint (unsigned_abs z) x
  pub greatest : (d : ℕ) → DividesPoint d x → d ∣ unsigned_abs z

-- the point with a divisor taken out of its denominator and its numbers
abbrev pub point_without : ℤ → PointOf → PointOf
point_without z x = record { num = map (λ n. int_div n z) x.num; den = int_div x.den z }

-- at the first variable at which they differ, x is below y
abbrev pub IsBefore : PointOf → PointOf → Type 0
IsBefore x y =
    (v : ℕ) × ((u : ℕ) → u < v → IsSame (value_of x u) (value_of y u))
    × IsLess (value_of x v) (value_of y v)

-- how two values compare
abbrev pub IsValueOrder : Ordering → Fraction → Fraction → Type 0
IsValueOrder Less a b = IsLess a b
IsValueOrder Equal a b = IsSame a b
IsValueOrder Greater a b = IsLess b a

-- how two points compare
abbrev pub IsPointOrder : Ordering → PointOf → PointOf → Type 0
IsPointOrder Less x y = IsBefore x y
IsPointOrder Equal x y = IsSamePoint x y
IsPointOrder Greater x y = IsBefore y x
