-- Products of the first numbers.
use Rattle.std.proofs.Common.{◌≡◌, ◌≢◌, ℕ, zero, suc, ◌+◌, ◌*◌, ◌<◌, ◌≤◌, ◌==◌, arith, refl, sym, ap, ap₂, ◌∙◌, true, false, if◌then◌else◌, mul_assoc, mul_comm, mul-one, mul-le-mul_right, add-mul, ⊎_elim}
use Rattle.std.proofs.lemmas.Bool.{cases_eq}
use Rattle.std.proofs.lemmas.Bool.Decides.{nat_tests}

abbrev pub product : ℕ → (ℕ → ℕ) → ℕ
product zero f = 1
product (suc n) f = product n f * f n

pub product_same : (n : ℕ) (f g : ℕ → ℕ) → ((k : ℕ) → k < n → f k ≡ g k)
    → product n f ≡ product n g
product_same zero f g h = refl
product_same (suc n) f g h =
    ap₂ ◌*◌ (product_same n f g (λ k p. h k (omega (arith, p)))) (h n (omega arith))

-- the first of the factors apart
pub product_first : (n : ℕ) (f : ℕ → ℕ) → product (suc n) f ≡ f 0 * product n (λ k. f (suc k))
product_first zero f = mul_comm 1 (f 0)
product_first (suc n) f =
    ap (λ m. m * f (suc n)) (product_first n f)
    ∙ mul_assoc (f 0) (product n (λ k. f (suc k))) (f (suc n))

-- the product without factor k
abbrev pub without : ℕ → ℕ → (ℕ → ℕ) → ℕ
without n k f = product n (λ j. if j == k then 1 else f j)

pub without_same : (n k : ℕ) (f g : ℕ → ℕ) → ((j : ℕ) → j < n → j ≢ k → f j ≡ g j)
    → without n k f ≡ without n k g
without_same n k f g h =
    product_same n (λ j. if j == k then 1 else f j) (λ j. if j == k then 1 else g j)
    (λ j p. ⊎_elim (λ (e : j ≡ k). here j e) (λ (c : j ≢ k). there j p c) (cases_eq j k))
  where
    here : (j : ℕ) → j ≡ k → (if j == k then 1 else f j) ≡ (if j == k then 1 else g j)
    here j e = let t : (j == k) ≡ true = grind (arith, nat_tests) in rw t refl

    there : (j : ℕ) → j < n → j ≢ k
        → (if j == k then 1 else f j) ≡ (if j == k then 1 else g j)
    there j p c = let t : (j == k) ≡ false = grind (arith, nat_tests) in rw t (h j p c)

pub factor_apart : (n k : ℕ) (f : ℕ → ℕ) → k < n → product n f ≡ f k * without n k f
factor_apart zero k f h = absurd (omega arith)
factor_apart (suc n) k f h =
    ⊎_elim (λ (e : k ≡ n). last e)
    (λ (c : k ≢ n). before c (factor_apart n k f (omega (arith, h, c)))) (cases_eq k n)
  where
    last : k ≡ n → product n f * f n ≡ f k * without (suc n) k f
    last e =
        let t : (n == k) ≡ true = grind (arith, nat_tests) in
        let s = product_same n f (λ j. if j == k then 1 else f j) (λ j p. other j p) in
        rw t (mul_comm (product n f) (f n) ∙ ap₂ ◌*◌ (ap f (sym e))
        (s ∙ sym (mul-one (without n k f))))
      where
        other : (j : ℕ) → j < n → f j ≡ (if j == k then 1 else f j)
        other j p = let t : (j == k) ≡ false = grind (arith, nat_tests) in rw t refl

    before : k ≢ n → product n f ≡ f k * without n k f
        → product n f * f n ≡ f k * without (suc n) k f
    before c r =
        let t : (n == k) ≡ false = grind (arith, nat_tests) in
        rw t (ap (λ m. m * f n) r
        ∙ mul_assoc (f k) (without n k f) (f n))

-- where a factor is a sum of two that aren't 0, so is the product
pub record IsParted (whole first second : ℕ) : Type 0 where
  pub sum : whole ≡ first + second
  pub first_some : 1 ≤ first
  pub second_some : 1 ≤ second

some_other : (f q : ℕ) → 1 ≤ f * q → 1 ≤ q
some_other f zero h = let z = mul_comm f 0 in absurd (omega (arith, h, z))
some_other f (suc q) h = omega arith

pub parted : (f a b q : ℕ) → IsParted f a b → 1 ≤ f * q → IsParted (f * q) (a * q) (b * q)
parted f a b q p h =
    let s = some_other f q h in
    let x : 1 * q ≤ a * q = mul-le-mul_right q p.first_some in
    let y : 1 * q ≤ b * q = mul-le-mul_right q p.second_some in
    record {
      sum = ap (λ m. m * q) p.sum ∙ add-mul a b q;
      first_some = omega (arith, s, x);
      second_some = omega (arith, s, y);
    }
