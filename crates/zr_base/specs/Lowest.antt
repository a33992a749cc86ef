-- Fractions in lowest terms, and the steps by which they are added and multiplied.
use Rattle.std.specs.Prelude.{ℕ, zero, suc, ◌%◌, ℤ, pos, neg_ℤ, ◌<ℤ◌, int_lt, int_div, unsigned_abs, if◌then◌else◌, Result, Ok}
use Rattle.std.specs.Int.{IsGcd}
use Rattle.zr_base.specs.declared.step.Wide.{Wide}
use Rattle.zr_base.specs.Steps.{IsNarrow, cross_of, ◌>>=◌}
use Rattle.zr_base.specs.Fractions.{Fraction, negated}

-- a denominator above zero, and both numbers narrow
pub record IsRatio (num den : ℤ) : Type 0 where
  pub positive : (pos 0) <ℤ den
  pub narrow_num : IsNarrow num
  pub narrow_den : IsNarrow den

-- a ratio whose numbers share no divisor above 1
pub record IsLowest (f : Fraction) : Type 0 where
  pub ratio : IsRatio f.num f.den
  pub coprime : IsGcd (unsigned_abs f.num) (unsigned_abs f.den) 1

-- Euclid's steps, at most so many of them
abbrev pub gcd_within : ℕ → ℕ → ℕ → ℕ
gcd_within zero a b = a
gcd_within (suc n) a zero = a
gcd_within (suc n) a (suc b) = gcd_within n (suc b) (a % suc b)

-- the greatest common divisor
unfoldable pub gcd_of : ℕ → ℕ → ℕ
gcd_of a b = gcd_within (suc b) a b

-- the fraction with the common divisor of its numbers taken out
unfoldable pub reduce : ℤ → ℤ → Fraction
reduce num den =
    let shared = pos (gcd_of (unsigned_abs num) (unsigned_abs den)) in
    record { num = int_div num shared; den = int_div den shared }

-- `a + b`: over the product of the denominators without their common divisor, and then reduced
unfoldable pub add_of : Fraction → Fraction → Result Fraction Wide
add_of a b =
    let shared = pos (gcd_of (unsigned_abs a.den) (unsigned_abs b.den)) in
    do
      num ← cross_of (a.num, int_div b.den shared) (neg_ℤ b.num, int_div a.den shared)
      den ← cross_of (a.den, int_div b.den shared) (pos 0, pos 0)
      Ok (reduce num den)

-- `a * b`: each numerator's common divisor with the other denominator is taken out first
unfoldable pub mul_of : Fraction → Fraction → Result Fraction Wide
mul_of a b =
    let outer = pos (gcd_of (unsigned_abs a.num) (unsigned_abs b.den)) in
    let inner = pos (gcd_of (unsigned_abs b.num) (unsigned_abs a.den)) in
    do
      num ← cross_of (int_div a.num outer, int_div b.num inner) (pos 0, pos 0)
      den ← cross_of (int_div a.den inner, int_div b.den outer) (pos 0, pos 0)
      Ok (reduce num den)

-- `a - b`: the sum of a and the negated b
unfoldable pub sub_of : Fraction → Fraction → Result Fraction Wide
sub_of a b = add_of a (negated b)

-- the fraction turned over, with its sign at the numerator
unfoldable pub reciprocal : Fraction → Fraction
reciprocal a = if int_lt a.num (pos 0) then record { num = neg_ℤ a.den; den = neg_ℤ a.num } else record { num = a.den; den = a.num }

-- `a / b`: the product of a and the reciprocal of b
unfoldable pub div_of : Fraction → Fraction → Result Fraction Wide
div_of a b = mul_of a (reciprocal b)
