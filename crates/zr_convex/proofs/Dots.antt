-- Sums of products over the numbers below a number.
use Rattle.std.proofs.Common.{◌≡◌, ◌≢◌, ℕ, zero, suc, ◌<◌, arith, sym, ap, ◌∙◌, ℤ, pos, ◌+ℤ◌, ◌*ℤ◌, ◌≤ℤ◌, ⊎_elim}
use Rattle.std.proofs.lemmas.Bool.{cases_eq}
use Rattle.std.proofs.lemmas.Int.{ints}
use Rattle.std.proofs.Math.IntN.{*ℤ_comm}
use Rattle.zr_base.specs.Sums.{sum_to}
use Rattle.zr_base.proofs.Dense.{sum_to-add, sum_to-mul, sum_to_same, sum_to_zero}
use Rattle.zr_base.proofs.Ring.{spread}

-- the sum of a v times x v over the first n numbers v
abbrev pub dot : ℕ → (ℕ → ℤ) → (ℕ → ℤ) → ℤ
dot n a x = sum_to n (λ v. a v *ℤ x v)

-- two sums may be exchanged
pub sum_to-swap : (n m : ℕ) (f : ℕ → ℕ → ℤ)
    → sum_to n (λ i. sum_to m (λ j. f i j)) ≡ sum_to m (λ j. sum_to n (λ i. f i j))
sum_to-swap zero m f = sym (sum_to_zero m)
sum_to-swap (suc n) m f =
    ap (λ x. x +ℤ sum_to m (λ j. f n j)) (sum_to-swap n m f)
    ∙ sym (sum_to-add m (λ j. sum_to n (λ i. f i j)) (λ j. f n j))

pub sum_to_nonneg : (n : ℕ) (f : ℕ → ℤ) → ((j : ℕ) → j < n → (pos 0) ≤ℤ f j) → (pos 0) ≤ℤ sum_to n f
sum_to_nonneg zero f h = omega (arith, ints)
sum_to_nonneg (suc n) f h =
    let r = sum_to_nonneg n f (λ j p. h j (omega arith)) in
    let s = h n (omega arith) in
    omega (arith, ints, r, s)

-- numbers from zero on whose sum is zero are zero
pub sum_to_nil : (n : ℕ) (f : ℕ → ℤ) → ((j : ℕ) → j < n → (pos 0) ≤ℤ f j) → sum_to n f ≡ pos 0
    → (j : ℕ) → j < n → f j ≡ pos 0
sum_to_nil zero f h e j p = absurd (omega arith)
sum_to_nil (suc n) f h e j p =
    let r = sum_to_nonneg n f (λ i q. h i (omega arith)) in
    let s = h n (omega arith) in
    ⊎_elim (λ (a : j ≡ n). rw a (omega (arith, ints, r, s, e)))
    (λ (a : j ≢ n). sum_to_nil n f (λ i q. h i (omega arith)) (omega (arith, ints, r, s, e)) j
    (omega arith)) (cases_eq j n)

pub dot_add : (n : ℕ) (a x y : ℕ → ℤ) → dot n a (λ v. x v +ℤ y v) ≡ dot n a x +ℤ dot n a y
dot_add n a x y =
    sum_to_same n (λ v. a v *ℤ (x v +ℤ y v)) (λ v. a v *ℤ x v +ℤ a v *ℤ y v) (λ v h. simp spread)
    ∙ sum_to-add n (λ v. a v *ℤ x v) (λ v. a v *ℤ y v)

pub dot_mul : (n : ℕ) (a : ℕ → ℤ) (m : ℤ) (x : ℕ → ℤ) → dot n a (λ v. m *ℤ x v) ≡ m *ℤ dot n a x
dot_mul n a m x =
    sum_to_same n (λ v. a v *ℤ (m *ℤ x v)) (λ v. m *ℤ (a v *ℤ x v)) (λ v h. simp spread)
    ∙ sum_to-mul n m (λ v. a v *ℤ x v)

pub dot_zero : (n : ℕ) (a : ℕ → ℤ) → dot n a (λ v. pos 0) ≡ pos 0
dot_zero n a = sum_to_same n (λ v. a v *ℤ pos 0) (λ v. pos 0) (λ v h. omega (arith, ints))
    ∙ sum_to_zero n

-- multiples of rows at z, by rows and by columns
pub by_columns : (n m : ℕ) (a : ℕ → ℕ → ℤ) (y z : ℕ → ℤ)
    → sum_to m (λ j. y j *ℤ dot n (a j) z) ≡ sum_to n (λ v. dot m (λ j. a j v) y *ℤ z v)
by_columns n m a y z =
    sum_to_same m (λ j. y j *ℤ dot n (a j) z) (λ j. sum_to n (λ v. y j *ℤ (a j v *ℤ z v)))
    (λ j h. sym (sum_to-mul n (y j) (λ v. a j v *ℤ z v)))
    ∙ sum_to-swap m n (λ j v. y j *ℤ (a j v *ℤ z v))
    ∙ sum_to_same n (λ v. sum_to m (λ j. y j *ℤ (a j v *ℤ z v)))
    (λ v. dot m (λ j. a j v) y *ℤ z v) (λ v h. sum_to_same m (λ j. y j *ℤ (a j v *ℤ z v))
    (λ j. z v *ℤ (a j v *ℤ y j)) (λ j q. simp spread) ∙ sum_to-mul m (z v) (λ j. a j v *ℤ y j)
    ∙ *ℤ_comm (z v) (dot m (λ j. a j v) y))

pub sum_to_le : (n : ℕ) (f g : ℕ → ℤ) → ((j : ℕ) → j < n → f j ≤ℤ g j) → sum_to n f ≤ℤ sum_to n g
sum_to_le zero f g h = omega (arith, ints)
sum_to_le (suc n) f g h =
    let r = sum_to_le n f g (λ j p. h j (omega arith)) in
    let s = h n (omega arith) in
    omega (arith, ints, r, s)
