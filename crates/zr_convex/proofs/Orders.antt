-- Products and the order.
use Rattle.std.proofs.Common.{◌≡◌, arith, ℤ, pos, negsuc, ◌*ℤ◌, ◌≤ℤ◌, ◌<ℤ◌, ◌⊎◌, inl, inr}
use Rattle.std.proofs.lemmas.Int.{ints, by_lt_z}
use Rattle.std.proofs.Math.IntN.{*ℤ_comm}
use Rattle.zr_base.proofs.Ring.{le-mul_right, le_of_mul_right, cancel_mul}

-- both sides times a number from zero on
pub scaled : (m a b : ℤ) → (pos 0) ≤ℤ m → a ≤ℤ b → (m *ℤ a) ≤ℤ (m *ℤ b)
scaled (pos n) a b p h = let r = le-mul_right a b n h in
    omega (arith, ints, r, *ℤ_comm (pos n) a, *ℤ_comm (pos n) b)
scaled (negsuc n) a b p h = absurd (omega (arith, ints, p))

pub cancelled : (m a b : ℤ) → (pos 0) <ℤ m → (m *ℤ a) ≤ℤ (m *ℤ b) → a ≤ℤ b
cancelled (pos n) a b p h = le_of_mul_right a b n (omega (arith, ints, p))
    (omega (arith, ints, h, *ℤ_comm (pos n) a, *ℤ_comm (pos n) b))
cancelled (negsuc n) a b p h = absurd p.lt

pub cancelled_same : (m a b : ℤ) → (pos 0) <ℤ m → m *ℤ a ≡ m *ℤ b → a ≡ b
cancelled_same (pos n) a b p h = cancel_mul a b n (omega (arith, ints, p))
    (omega (arith, ints, h, *ℤ_comm (pos n) a, *ℤ_comm (pos n) b))
cancelled_same (negsuc n) a b p h = absurd p.lt

pub nonneg_mul : (a b : ℤ) → (pos 0) ≤ℤ a → (pos 0) ≤ℤ b → (pos 0) ≤ℤ (a *ℤ b)
nonneg_mul a b p q = let r = scaled a (pos 0) b p q in omega (arith, ints, r)

-- a product of zero has a factor of zero
pub zero_factor : (a b : ℤ) → (pos 0) ≤ℤ a → (pos 0) ≤ℤ b → a *ℤ b ≡ pos 0 → (a ≡ pos 0)
    ⊎ (b ≡ pos 0)
zero_factor a b p q e =
    by_lt_z {P = (a ≡ pos 0) ⊎ (b ≡ pos 0)} (pos 0) a
    (λ above. inr (cancelled_same a b (pos 0) above (omega (arith, ints, e))))
    (λ below. inl (omega (arith, ints, p, below)))

pub positive_sign : (z : ℤ) → (pos 0) ≤ℤ z → (z ≡ pos 0) ⊎ ((pos 0) <ℤ z)
positive_sign z h = by_lt_z {P = (z ≡ pos 0) ⊎ ((pos 0) <ℤ z)} (pos 0) z (λ above. inr above)
    (λ below. inl (omega (arith, ints, h, below)))
