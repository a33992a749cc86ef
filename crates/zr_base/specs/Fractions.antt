-- Fractions as a numerator over a denominator. They are not reduced: two of them are the same where their values agree.
use Rattle.std.specs.Prelude.{◌≡◌, ℕ, zero, suc, ℤ, pos, neg_ℤ, ◌+ℤ◌, ◌-ℤ◌, ◌*ℤ◌, ◌≤ℤ◌, ◌<ℤ◌, List, [], ◌∷◌}
use Rattle.std.specs.declared.cmp.Ordering.{Ordering}
use Rattle.std.specs.Ordering.{int_cmp}

pub record Fraction : Type 0 where
  pub num : ℤ
  pub den : ℤ

-- num over den
abbrev pub ratio : ℤ → ℤ → Fraction
ratio num den = record { num = num; den = den }

-- a whole number
abbrev pub whole : ℤ → Fraction
whole z = record { num = z; den = pos 1 }

-- the sum
abbrev pub plus : Fraction → Fraction → Fraction
plus a b = record { num = a.num *ℤ b.den +ℤ b.num *ℤ a.den; den = a.den *ℤ b.den }

-- the same with the sign turned
abbrev pub negated : Fraction → Fraction
negated a = record { num = neg_ℤ a.num; den = a.den }

-- the difference
abbrev pub minus : Fraction → Fraction → Fraction
minus a b = record { num = a.num *ℤ b.den -ℤ b.num *ℤ a.den; den = a.den *ℤ b.den }

-- the product
abbrev pub times : Fraction → Fraction → Fraction
times a b = record { num = a.num *ℤ b.num; den = a.den *ℤ b.den }

-- the quotient by a whole number
abbrev pub over : Fraction → ℤ → Fraction
over a n = record { num = a.num; den = a.den *ℤ n }

-- the cross products agree: the values do, where the denominators are above zero
abbrev pub HaveSameCross : Fraction → Fraction → Type 0
HaveSameCross a b = a.num *ℤ b.den ≡ b.num *ℤ a.den

-- both are fractions, with denominators above zero, of one value
pub record IsSame (a b : Fraction) : Type 0 where
  pub left : (pos 0) <ℤ a.den
  pub right : (pos 0) <ℤ b.den
  pub cross : HaveSameCross a b

abbrev pub IsAtMost : Fraction → Fraction → Type 0
IsAtMost a b = (a.num *ℤ b.den) ≤ℤ (b.num *ℤ a.den)

abbrev pub IsLess : Fraction → Fraction → Type 0
IsLess a b = (a.num *ℤ b.den) <ℤ (b.num *ℤ a.den)

-- how the values compare
abbrev pub order_of : Fraction → Fraction → Ordering
order_of a b = int_cmp (a.num *ℤ b.den) (b.num *ℤ a.den)

-- the sum of f over a list
abbrev pub sum_over : {A : Type 0} → List A → (A → Fraction) → Fraction
sum_over [] f = whole (pos 0)
sum_over (x ∷ xs) f = plus (f x) (sum_over xs f)

-- f 0 + .. + f (n - 1)
abbrev pub sum_below : ℕ → (ℕ → Fraction) → Fraction
sum_below zero f = whole (pos 0)
sum_below (suc n) f = plus (sum_below n f) (f n)
