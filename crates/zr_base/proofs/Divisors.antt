-- Greatest common divisors of a fraction's numbers, and quotients that leave nothing.
use Rattle.std.proofs.Common.{◌≡◌, ℕ, zero, suc, ◌*◌, ◌^◌, ◌<◌, ◌≤◌, arith, ap, sym, subst, ◌∙◌, ℤ, pos, negsuc, ◌*ℤ◌, ◌<ℤ◌, neg_ℤ, unsigned_abs, int_div, int_rem, refl, one-mul, le-mul_of_pos_right, mul-pos, ◌+ℤ◌, ◌-ℤ◌}
use Rattle.std.proofs.Math.Nat.{le_of_dvd, pos_of_dvd_of_pos, mod-eq-zero_of_dvd, one-dvd, mul-dvd-mul_right, dvd_of_mul-dvd-mul_right}
use Rattle.std.proofs.Math.IntN.{zero-*ℤ}
use borrow.Author.Differences.{product_is}
use Rattle.zr_base.proofs.Ring.{spread, cancel_mul}
use Rattle.zr_base.specs.Steps.{IsNarrow}
use Rattle.zr_base.specs.Lowest.{IsRatio}
use Rattle.std.proofs.lemmas.Int.{ints, quot-rem, unsigned_abs-mul}
use Rattle.std.specs.Int.{IsGcd, ◌∣◌}
use Rattle.zr_base.specs.Lowest.{IsLowest}

pub gcd_bound : (num den : ℤ) (g : ℕ) → IsRatio num den → IsGcd (unsigned_abs num) (unsigned_abs den) g → (0 < g) × (g < 2 ^ 127)
gcd_bound num den g ratio gcd =
    let positive : 0 < unsigned_abs den = omega (arith, ints, ratio.positive) in
    let least : 0 < g = pos_of_dvd_of_pos gcd.1 positive in
    omega (arith, le_of_dvd positive gcd.1, ratio.narrow_den)

rem_zero : (a d : ℤ) → unsigned_abs d ∣ unsigned_abs a → int_rem a d ≡ pos 0
rem_zero (pos a) d h = ap pos (mod-eq-zero_of_dvd (unsigned_abs d) h)
rem_zero (negsuc a) d h = ap (λ n. neg_ℤ (pos n)) (mod-eq-zero_of_dvd (unsigned_abs d) h)

pub quot_exact : (a d : ℤ) → unsigned_abs d ∣ unsigned_abs a → int_div a d *ℤ d ≡ a
quot_exact a d h = omega (arith, ints, quot-rem a d, rem_zero a d h)

pub nonneg_abs : (z : ℤ) → (pos 0) <ℤ z → z ≡ pos (unsigned_abs z)
nonneg_abs (pos n) h = refl
nonneg_abs (negsuc n) h = absurd h.lt

smaller : (n g a : ℤ) → n *ℤ g ≡ a → (pos 0) <ℤ g → IsNarrow a → IsNarrow n
smaller n g a e positive narrow =
    let least : 0 < unsigned_abs g = omega (arith, ints) in
    let factor : unsigned_abs n ≤ unsigned_abs n * unsigned_abs g = le-mul_of_pos_right (unsigned_abs n) least in
    omega (arith, unsigned_abs-mul n g, ap unsigned_abs e)

pub positive_factor : (d g : ℤ) → (pos 0) <ℤ (d *ℤ g) → (pos 0) <ℤ g → (pos 0) <ℤ d
positive_factor (pos zero) g h positive = absurd (omega (arith, ints, h, zero-*ℤ g))
positive_factor (pos (suc n)) g h positive = omega (arith, ints)
positive_factor (negsuc n) (pos zero) h positive = absurd positive.lt
positive_factor (negsuc n) (pos (suc k)) h positive = absurd (omega (arith, ints, h, product_is (negsuc n) (pos (suc k))))
positive_factor (negsuc n) (negsuc k) h positive = absurd positive.lt

module _ (num den n d g : ℤ) (ratio : IsRatio num den) (positive : (pos 0) <ℤ g) (gcd : IsGcd (unsigned_abs num) (unsigned_abs den) (unsigned_abs g)) (over : n *ℤ g ≡ num) (under : d *ℤ g ≡ den) where
  below : (k : ℕ) (z a : ℤ) → z *ℤ g ≡ a → k ∣ unsigned_abs z → k * unsigned_abs g ∣ unsigned_abs a
  below k z a e h =
      subst (λ m. k * unsigned_abs g ∣ m) (sym (unsigned_abs-mul z g) ∙ ap unsigned_abs e) (mul-dvd-mul_right k h (unsigned_abs g))

  coprime : IsGcd (unsigned_abs n) (unsigned_abs d) 1
  coprime =
      let least : 0 < unsigned_abs g = omega (arith, ints) in
      (one-dvd (unsigned_abs n), one-dvd (unsigned_abs d), λ k p q. dvd_of_mul-dvd-mul_right k least (subst (λ m. k * unsigned_abs g ∣ m) (sym (one-mul (unsigned_abs g))) (gcd.2 (k * unsigned_abs g) (below k n num over p) (below k d den under q))))

  pub is_lowest : IsLowest (record { num = n; den = d })
  is_lowest = record {
    ratio = record {
      positive = positive_factor d g (rw under ratio.positive) positive;
      narrow_num = smaller n g num over positive ratio.narrow_num;
      narrow_den = smaller d g den under positive ratio.narrow_den;
    };
    coprime = coprime;
  }

  pub is_same : n *ℤ den ≡ num *ℤ d
  is_same = rw (← over, ← under) (simp spread)

pub cancel : (a b k : ℤ) → (pos 0) <ℤ k → a *ℤ k ≡ b *ℤ k → a ≡ b
cancel a b (pos n) h e = cancel_mul a b n (omega (arith, ints, h)) e
cancel a b (negsuc n) h e = absurd h.lt

-- two fractions that equal a third are equal
pub same_value : (a b c d e f : ℤ) → (pos 0) <ℤ d → a *ℤ d ≡ c *ℤ b → c *ℤ f ≡ e *ℤ d → a *ℤ f ≡ e *ℤ b
same_value a b c d e f positive first second =
    let p = simp spread at (ap (λ x. x *ℤ f) first) in
    let q = simp spread at (ap (λ x. x *ℤ b) second) in
    cancel (a *ℤ f) (e *ℤ b) d positive (simp spread (omega (arith, ints)))

pub mul_positive : (a b : ℤ) → (pos 0) <ℤ a → (pos 0) <ℤ b → (pos 0) <ℤ (a *ℤ b)
mul_positive a b p q =
    let m : 0 < unsigned_abs a * unsigned_abs b = mul-pos (omega (arith, ints)) (omega (arith, ints)) in
    rw (nonneg_abs a p, nonneg_abs b q) (omega (arith, ints))

-- what a sum over the denominators without their common divisor is worth
pub sum_exact : (an ad bn bd l r g num den fn fd : ℤ) → l *ℤ g ≡ ad → r *ℤ g ≡ bd → num ≡ an *ℤ r -ℤ neg_ℤ bn *ℤ l → den ≡ ad *ℤ r -ℤ pos 0 *ℤ pos 0 → fn *ℤ den ≡ num *ℤ fd → fn *ℤ (ad *ℤ bd) ≡ (an *ℤ bd +ℤ bn *ℤ ad) *ℤ fd
sum_exact an ad bn bd l r g num den fn fd left right n d e =
    let scaled : (fn *ℤ (ad *ℤ r)) *ℤ g ≡ ((an *ℤ r +ℤ bn *ℤ l) *ℤ fd) *ℤ g = ap (λ x. x *ℤ g) (ap (λ x. fn *ℤ x) (sym (d ∙ omega (arith, ints))) ∙ e ∙ ap (λ x. x *ℤ fd) (n ∙ simp spread (omega (arith, ints)))) in
    rw (← left, ← right) (let s = simp spread at (rw (← left) at scaled) in simp spread (omega (arith, ints)))
