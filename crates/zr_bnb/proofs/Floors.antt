-- Values rounded down.
use Rattle.std.proofs.Common.{◌≡◌, ℕ, zero, suc, ◌+◌, ◌*◌, ◌/◌, ◌<◌, ◌≤◌, arith, refl, ap, ℤ, pos, negsuc, neg_ℤ, ◌+ℤ◌, ◌*ℤ◌, ◌<ℤ◌, ◌≤ℤ◌, int_le, Bool, true, false, ◌⊎◌, inl, inr, ⊎_elim}
use Rattle.std.specs.Int.{int_div_euclid}
use Rattle.std.proofs.Math.Nat.{mod-lt, mod-add-div}
use Rattle.std.proofs.lemmas.Int.{ints}
use Rattle.zr_base.proofs.Ring.{neg-mul_left}
use Rattle.zr_base.proofs.Worth.{le_times}
use Rattle.zr_game.specs.Feasible.{IsMultiple}

le_or_above : (a b : ℤ) → (a ≤ℤ b) ⊎ ((b +ℤ pos 1) ≤ℤ a)
le_or_above a b = which (int_le a b) refl
  where
    which : (t : Bool) → int_le a b ≡ t → (a ≤ℤ b) ⊎ ((b +ℤ pos 1) ≤ℤ a)
    which true e = inl (omega (arith, ints, e))
    which false e = inr (omega (arith, ints, e))

-- q is a over m, rounded down
quotient : (a m : ℕ) → 0 < m → (a / m * m ≤ a) × (a < (a / m + 1) * m)
quotient a m positive =
    let l = mod-lt a positive in
    let e = mod-add-div a m in
    (omega (arith, l, e), omega (arith, l, e))

pub floor_below : (n d : ℤ) → (pos 0) <ℤ d → (int_div_euclid n d *ℤ d) ≤ℤ n
floor_below (pos a) (pos zero) h = absurd (omega (arith, ints, h))
floor_below (pos a) (pos (suc b)) h =
    let q = quotient a (suc b) (omega arith) in
    let l = q.0 in omega (arith, ints, l)
floor_below (negsuc a) (pos zero) h = absurd (omega (arith, ints, h))
floor_below (negsuc a) (pos (suc b)) h =
    let q = quotient a (suc b) (omega arith) in
    let l = q.1 in omega (arith, ints, l)
floor_below n (negsuc b) h = absurd (omega (arith, ints, h))

pub floor_above : (n d : ℤ) → (pos 0) <ℤ d → n <ℤ ((int_div_euclid n d +ℤ pos 1) *ℤ d)
floor_above (pos a) (pos zero) h = absurd (omega (arith, ints, h))
floor_above (pos a) (pos (suc b)) h =
    let q = quotient a (suc b) (omega arith) in
    let l = q.1 in omega (arith, ints, l)
floor_above (negsuc a) (pos zero) h = absurd (omega (arith, ints, h))
floor_above (negsuc a) (pos (suc b)) h =
    let q = quotient a (suc b) (omega arith) in
    let l = q.0 in
    let n : negsuc (a / suc b) +ℤ pos 1 ≡ neg_ℤ (pos (a / suc b)) = omega (arith, ints) in
    let m = neg-mul_left (pos (a / suc b)) (pos (suc b)) in
    let t = ap (λ z. z *ℤ pos (suc b)) n in
    omega (arith, ints, l, m, t)
floor_above n (negsuc b) h = absurd (omega (arith, ints, h))

-- a bound that a value that isn't whole keeps
pub low_floor : (l f n d : ℤ) → (pos 0) <ℤ d → (l *ℤ d) ≤ℤ n → n <ℤ ((f +ℤ pos 1) *ℤ d) → l ≤ℤ f
low_floor l f n d positive low above =
    ⊎_elim (λ (h : l ≤ℤ f). h)
    (λ (h : (f +ℤ pos 1) ≤ℤ l). let t = le_times (f +ℤ pos 1) l d positive h in
    absurd (omega (arith, ints, low, above, t))) (le_or_above l f)

pub high_floor : (h f n d : ℤ) → (pos 0) <ℤ d → n ≤ℤ (h *ℤ d) → (f *ℤ d) ≤ℤ n
    → (IsMultiple n d → ⊥) → f <ℤ h
high_floor h f n d positive high below apart =
    ⊎_elim (λ (l : h ≤ℤ f). let t = le_times h f d positive l in
    absurd (apart (h, omega (arith, ints, high, below, t))))
    (λ (l : (f +ℤ pos 1) ≤ℤ h). omega (arith, ints, l)) (le_or_above h f)
