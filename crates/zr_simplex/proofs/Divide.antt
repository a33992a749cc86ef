-- The common divisor of a row is taken out.
use Rattle.std.proofs.Common.{◌≡◌, ◌≢◌, ℕ, zero, suc, ◌+◌, ◌*◌, ◌<◌, ◌≤◌, ◌^◌, arith, refl, sym, ap, subst, ◌∙◌, ℤ, pos, negsuc, neg_ℤ, ◌-ℤ◌, ◌*ℤ◌, ◌<ℤ◌, unsigned_abs, List, length, set, All, one-mul, le-mul_of_pos_right, length-set, ⊎_elim, get_or-set_same, get_or-set_other, below_more}
use Rattle.std.proofs.Math.Nat.{one-dvd, le_of_dvd, pos_of_dvd_of_pos, mul-dvd-mul_right, dvd_of_mul-dvd-mul_right}
use Rattle.std.proofs.lemmas.Bool.{cases_eq}
use Rattle.std.proofs.lemmas.Int.{ints, unsigned_abs-mul}
use Rattle.std.proofs.lemmas.Nat.Gcd.{dvd_refl, dvd_trans}
use Rattle.std.specs.Int.{IsGcd, ◌∣◌}
use Rattle.zr_base.specs.Steps.{IsNarrow}
use Rattle.zr_base.proofs.Divisors.{positive_factor, cancel}
use Rattle.zr_base.proofs.Ring.{neg-mul_right}
use Rattle.zr_basis.specs.BasicForms.{IsPrimitive}
use Rattle.zr_simplex.specs.Programs.{numbers}
use Rattle.zr_simplex.specs.RowSteps.{IsGreatest}

pub abs_negated : (z : ℤ) → unsigned_abs (pos 0 -ℤ z) ≡ unsigned_abs z
abs_negated z = omega (arith, ints)

pub apart_positive : (z : ℤ) → z ≢ pos 0 → 0 < unsigned_abs z
apart_positive (pos zero) h = absurd (h refl)
apart_positive (pos (suc n)) h = omega (arith, ints)
apart_positive (negsuc n) h = omega (arith, ints)

pub divides_each : (n : ℕ) (f : ℕ → ℤ) (g : ℕ) → IsGreatest n f g → (j : ℕ) → j < n → g ∣ unsigned_abs (f j)
divides_each n f g greatest = (greatest g).1 (dvd_refl g)

pub greatest_bound : (n : ℕ) (f : ℕ → ℤ) (g own : ℕ) → IsGreatest n f g → own < n → f own ≢ pos 0 → IsNarrow (f own) → (0 < g) × (g < 2 ^ 127)
greatest_bound n f g own greatest below apart narrow =
    let positive = apart_positive (f own) apart in
    let divides = divides_each n f g greatest own below in
    let least : 0 < g = pos_of_dvd_of_pos divides positive in
    omega (arith, le_of_dvd positive divides, narrow)

-- a row without a common divisor has 1 as its greatest
pub greatest_one : (n : ℕ) (f : ℕ → ℤ) → IsPrimitive n f → IsGreatest n f 1
greatest_one n f primitive d =
    (λ all. subst (λ k. k ∣ 1) (sym (primitive d all)) (dvd_refl 1), λ h. λ j q. dvd_trans d h (one-dvd (unsigned_abs (f j))))

-- one number more is taken into the greatest common divisor
pub greatest_more : (f : ℕ → ℤ) (i a g : ℕ) → IsGreatest i f a → IsGcd a (unsigned_abs (f i)) g → IsGreatest (i + 1) f g
greatest_more f i a g before gcd d =
    (λ all. gcd.2 d ((before d).0 (λ j h. all j (omega arith))) (all i (omega arith)), λ h. below_more _ _ ((before d).1 (dvd_trans d h gcd.0)) (dvd_trans d h gcd.1))

pub greatest_same : (n : ℕ) (f g : ℕ → ℤ) (k : ℕ) → ((j : ℕ) → j < n → f j ≡ g j) → IsGreatest n f k → IsGreatest n g k
greatest_same n f g k same greatest d =
    (λ all. (greatest d).0 (λ j h. rw (same j h) (all j h)), λ q. λ j h. rw (← same j h) ((greatest d).1 q j h))

one_if : (d : ℕ) → d ∣ 1 → d ≡ 1
one_if d h =
    let positive : 0 < 1 = omega arith in
    let least : 0 < d = pos_of_dvd_of_pos h positive in
    omega (arith, le_of_dvd positive h)

pub primitive_if : (n : ℕ) (f new : ℕ → ℤ) (by : ℤ) → by ≢ pos 0 → IsGreatest n f (unsigned_abs by) → ((j : ℕ) → j < n → new j *ℤ by ≡ f j) → IsPrimitive n new
primitive_if n f new by apart greatest made d all =
    let least = apart_positive by apart in
    let each : (j : ℕ) → j < n → d * unsigned_abs by ∣ unsigned_abs (f j) = λ j h. subst (λ m. d * unsigned_abs by ∣ m) (sym (unsigned_abs-mul (new j) by) ∙ ap unsigned_abs (made j h)) (mul-dvd-mul_right d (all j h) (unsigned_abs by)) in
    one_if d (dvd_of_mul-dvd-mul_right d least (subst (λ m. d * unsigned_abs by ∣ m) (sym (one-mul (unsigned_abs by))) ((greatest (d * unsigned_abs by)).0 each)))

-- a number with the sign of its divisor leaves one above zero
pub own_if : (z by a : ℤ) → z *ℤ by ≡ a → a ≢ pos 0 → ((pos 0) <ℤ a → (pos 0) <ℤ by) → (a <ℤ (pos 0) → by <ℤ (pos 0)) → (pos 0) <ℤ z
own_if z by (pos zero) e apart above below = absurd (apart refl)
own_if z by (pos (suc n)) e apart above below =
    positive_factor z by (rw e (omega (arith, ints))) (above (omega (arith, ints)))
own_if z by (negsuc n) e apart above below =
    let b = below (omega (arith, ints)) in
    let n = neg-mul_right z by in
    positive_factor z (neg_ℤ by) (rw (n, e) (omega (arith, ints))) (omega (arith, ints, b))

pub smaller : (z by a : ℤ) → z *ℤ by ≡ a → by ≢ pos 0 → IsNarrow a → IsNarrow z
smaller z by a e apart narrow =
    let least = apart_positive by apart in
    let factor : unsigned_abs z ≤ unsigned_abs z * unsigned_abs by = le-mul_of_pos_right (unsigned_abs z) least in
    omega (arith, unsigned_abs-mul z by, ap unsigned_abs e)

-- one number more is divided
module _ (init row : List ℤ) (by v : ℤ) (i : ℕ) (below : i < length row) (exact : v *ℤ by ≡ numbers row i) where
  pub done_more : ((j : ℕ) → j < i → numbers row j *ℤ by ≡ numbers init j) → ((j : ℕ) → i ≤ j → numbers row j ≡ numbers init j) → (j : ℕ) → j < i + 1 → numbers (set row i v) j *ℤ by ≡ numbers init j
  done_more done left j h = ⊎_elim (λ (e : j ≡ i). rw (e, get_or-set_same row i v (pos 0) below) (exact ∙ left i (omega arith))) (λ (a : j ≢ i). rw (get_or-set_other row i j v (pos 0) a) (done j (omega arith))) (cases_eq j i)

  pub left_more : ((j : ℕ) → i ≤ j → numbers row j ≡ numbers init j) → (j : ℕ) → i + 1 ≤ j → numbers (set row i v) j ≡ numbers init j
  left_more left j h =
      let a : j ≢ i = omega arith in
      rw (get_or-set_other row i j v (pos 0) a) (left j (omega arith))

pub narrow_more : (row : List ℤ) (i : ℕ) (v : ℤ) → i < length row → All IsNarrow row → IsNarrow v → All IsNarrow (set row i v)
narrow_more row i v below all narrow k d h =
    let q : k < length row = omega (arith, length-set row i v) in
    ⊎_elim (λ (e : k ≡ i). rw (e, get_or-set_same row i v d below) narrow) (λ (a : k ≢ i). rw (get_or-set_other row i k v d a) (all k d q)) (cases_eq k i)

-- a divisor with the sign of a number that isn't zero isn't zero
pub apart_by : (a by : ℤ) → a ≢ pos 0 → ((pos 0) <ℤ a → (pos 0) <ℤ by) → (a <ℤ (pos 0) → by <ℤ (pos 0)) → by ≢ pos 0
apart_by (pos zero) by apart above below e = apart refl
apart_by (pos (suc n)) by apart above below e =
    let p = above (omega (arith, ints)) in omega (arith, ints, e, p)
apart_by (negsuc n) by apart above below e =
    let p = below (omega (arith, ints)) in omega (arith, ints, e, p)

pub cancel_apart : (a b k : ℤ) → k ≢ pos 0 → a *ℤ k ≡ b *ℤ k → a ≡ b
cancel_apart a b (pos zero) apart e = absurd (apart refl)
cancel_apart a b (pos (suc n)) apart e = cancel a b (pos (suc n)) (omega (arith, ints)) e
cancel_apart a b (negsuc n) apart e =
    let l = neg-mul_right a (negsuc n) in
    let r = neg-mul_right b (negsuc n) in
    cancel a b (neg_ℤ (negsuc n)) (omega (arith, ints)) (l ∙ ap neg_ℤ e ∙ sym r)

pub zero_if : (a k : ℤ) → k ≢ pos 0 → a *ℤ k ≡ pos 0 → a ≡ pos 0
zero_if a k apart e = cancel_apart a (pos 0) k apart (e ∙ omega (arith, ints))
