-- Sums and multiples of `a <= b` and `a < b`.
use Rattle.std.proofs.Common.{◌≡◌, arith, ℤ, pos, negsuc, ◌+ℤ◌, ◌-ℤ◌, ◌*ℤ◌, ◌≤ℤ◌, ◌<ℤ◌, Bool, true, false, ◌||◌}
use Rattle.std.proofs.Math.IntN.{*ℤ_comm}
use Rattle.std.proofs.lemmas.Int.{ints, by_lt_z}
use Rattle.zr_base.proofs.Ring.{le-mul_right, lt-mul_right, le_of_mul_right}
use Rattle.zr_lin.specs.DenseRows.{IsBelow}

pub below-add : (s t : Bool) (a b c d : ℤ) → IsBelow s a b → IsBelow t c d → IsBelow (s || t) (a +ℤ c) (b +ℤ d)
below-add true true a b c d h k = omega (arith, ints)
below-add true false a b c d h k = omega (arith, ints)
below-add false true a b c d h k = omega (arith, ints)
below-add false false a b c d h k = omega (arith, ints)

pub below-mul : (s : Bool) (m a b : ℤ) → (pos 1) ≤ℤ m → IsBelow s a b → IsBelow s (m *ℤ a) (m *ℤ b)
below-mul true (pos n) a b p h =
    let r = lt-mul_right a b n (omega (arith, ints, p)) h in
    omega (arith, ints, r, *ℤ_comm (pos n) a, *ℤ_comm (pos n) b)
below-mul false (pos n) a b p h =
    let r = le-mul_right a b n h in
    omega (arith, ints, r, *ℤ_comm (pos n) a, *ℤ_comm (pos n) b)
below-mul s (negsuc n) a b p h = absurd (omega (arith, ints, p))

pub below-mul_right : (s : Bool) (a b e : ℤ) → (pos 0) <ℤ e → IsBelow s a b → IsBelow s (a *ℤ e) (b *ℤ e)
below-mul_right true a b (pos n) p h = lt-mul_right a b n (omega (arith, ints, p)) h
below-mul_right false a b (pos n) p h = le-mul_right a b n h
below-mul_right s a b (negsuc n) p h = absurd p.lt

pub below_of_mul_right : (s : Bool) (a b e : ℤ) → (pos 0) <ℤ e → IsBelow s (a *ℤ e) (b *ℤ e) → IsBelow s a b
below_of_mul_right true a b (pos n) p h =
    by_lt_z {P = a <ℤ b} a b (λ below. below) (λ above. let r = le-mul_right b a n above in absurd (omega (arith, ints, r, h)))
below_of_mul_right false a b (pos n) p h = le_of_mul_right a b n (omega (arith, ints, p)) h
below_of_mul_right s a b (negsuc n) p h = absurd p.lt

pub below_gap : (s : Bool) (a b : ℤ) → IsBelow s a b → IsBelow s (a -ℤ b) (pos 0)
below_gap true a b h = omega (arith, ints, h)
below_gap false a b h = omega (arith, ints, h)

pub below_of_gap : (s : Bool) (a b c : ℤ) → IsBelow s c (pos 0) → c ≡ a -ℤ b → IsBelow s a b
below_of_gap true a b c h e = omega (arith, ints, h, e)
below_of_gap false a b c h e = omega (arith, ints, h, e)

-- nothing below zero is above zero
pub not_below : (s : Bool) (z : ℤ) → z <ℤ (pos 0) → IsBelow s (pos 0) z → ⊥
not_below true z q h = omega (arith, ints)
not_below false z q h = omega (arith, ints)
