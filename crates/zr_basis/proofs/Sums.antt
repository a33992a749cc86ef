-- Sums over columns and rows.
use Rattle.std.proofs.Common.{◌≡◌, ◌≢◌, ℕ, zero, suc, ◌+◌, ◌<◌, arith, refl, sym, ap, ◌∙◌, ℤ, pos, ◌+ℤ◌, ◌-ℤ◌, ◌*ℤ◌, ⊎_elim}
use Rattle.std.proofs.lemmas.Int.{ints}
use Rattle.std.proofs.lemmas.Bool.{cases_eq}
use Rattle.zr_base.proofs.Ring.{spread}
use Rattle.zr_base.specs.Sums.{sum_to}
use Rattle.zr_base.proofs.Dense.{sum_to_same, sum_to_zero, sum_to-add}

-- the sum over the first n and the next m places
pub sum_to-append : (n m : ℕ) (f : ℕ → ℤ) → sum_to (n + m) f ≡ sum_to n f +ℤ sum_to m (λ k. f (n + k))
sum_to-append n zero f = let e : n + 0 ≡ n = omega arith in rw e (omega (arith, ints))
sum_to-append n (suc m) f =
    let e : n + suc m ≡ suc (n + m) = omega arith in
    rw e (let r = sum_to-append n m f in omega (arith, ints, r))

-- rows and columns may be summed in either order
pub sum_to-swap : (n m : ℕ) (f : ℕ → ℕ → ℤ) → sum_to n (λ i. sum_to m (λ j. f i j)) ≡ sum_to m (λ j. sum_to n (λ i. f i j))
sum_to-swap zero m f = sym (sum_to_zero m)
sum_to-swap (suc n) m f =
    ap (λ s. s +ℤ sum_to m (λ j. f n j)) (sum_to-swap n m f) ∙ sym (sum_to-add m (λ j. sum_to n (λ i. f i j)) (λ j. f n j))

-- a sum all of whose places are zero
pub sum_to-all_zero : (n : ℕ) (f : ℕ → ℤ) → ((j : ℕ) → j < n → f j ≡ pos 0) → sum_to n f ≡ pos 0
sum_to-all_zero n f h = sum_to_same n f (λ j. pos 0) h ∙ sum_to_zero n

-- a sum of which only place k may differ from zero
pub sum_to-single : (n k : ℕ) (f : ℕ → ℤ) → k < n → ((j : ℕ) → j < n → j ≢ k → f j ≡ pos 0) → sum_to n f ≡ f k
sum_to-single zero k f h only = absurd (omega arith)
sum_to-single (suc n) k f h only = ⊎_elim (λ (e : n ≡ k). last e) (λ (a : n ≢ k). inner a (sum_to-single n k f (omega arith) (λ j p q. only j (omega arith) q))) (cases_eq n k)
  where
    last : n ≡ k → sum_to (suc n) f ≡ f k
    last e =
        let z = sum_to-all_zero n f (λ j p. only j (omega arith) (λ (s : j ≡ k). omega arith)) in
        rw (← e) (omega (arith, ints, z))

    inner : n ≢ k → sum_to n f ≡ f k → sum_to (suc n) f ≡ f k
    inner a r = let z = only n (omega arith) a in omega (arith, ints, r, z)

pub sum_to-sub : (n : ℕ) (f g : ℕ → ℤ) → sum_to n (λ j. f j -ℤ g j) ≡ sum_to n f -ℤ sum_to n g
sum_to-sub zero f g = refl
sum_to-sub (suc n) f g = let r = sum_to-sub n f g in omega (arith, ints, r)

pub sum_to-mul_right : (n : ℕ) (f : ℕ → ℤ) (m : ℤ) → sum_to n (λ j. f j *ℤ m) ≡ sum_to n f *ℤ m
sum_to-mul_right zero f m = omega (arith, ints)
sum_to-mul_right (suc n) f m = let r = sum_to-mul_right n f m in ap (λ x. x +ℤ f n *ℤ m) r ∙ simp spread (omega (arith, ints))

-- a sum of which only places k and l may differ from zero
pub sum_to-double : (n k l : ℕ) (f : ℕ → ℤ) → k < n → l < n → k ≢ l → ((j : ℕ) → j < n → j ≢ k → j ≢ l → f j ≡ pos 0) → sum_to n f ≡ f k +ℤ f l
sum_to-double zero k l f h g apart only = absurd (omega arith)
sum_to-double (suc n) k l f h g apart only =
    ⊎_elim (λ (e : n ≡ k). last_k e) (λ (a : n ≢ k). ⊎_elim (λ (e : n ≡ l). last_l e) (λ (b : n ≢ l). inner a b (sum_to-double n k l f (omega arith) (omega arith) apart (λ j p. only j (omega arith)))) (cases_eq n l)) (cases_eq n k)
  where
    last_k : n ≡ k → sum_to (suc n) f ≡ f k +ℤ f l
    last_k e =
        let z = sum_to-single n l f (omega arith) (λ j p q. only j (omega arith) (λ (s : j ≡ k). omega arith) q) in
        rw (← e) (omega (arith, ints, z))

    last_l : n ≡ l → sum_to (suc n) f ≡ f k +ℤ f l
    last_l e =
        let z = sum_to-single n k f (omega arith) (λ j p q. only j (omega arith) q (λ (s : j ≡ l). omega arith)) in
        rw (← e) (omega (arith, ints, z))

    inner : n ≢ k → n ≢ l → sum_to n f ≡ f k +ℤ f l → sum_to (suc n) f ≡ f k +ℤ f l
    inner a b r = let z = only n (omega arith) a b in omega (arith, ints, r, z)
