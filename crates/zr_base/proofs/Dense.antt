-- A row's value as a sum over all columns.
use Rattle.std.proofs.Common.{◌≡◌, ◌≢◌, ℕ, zero, suc, ◌+◌, ◌<◌, arith, refl, sym, ap, ap₂, ◌∙◌, ℤ, pos, ◌+ℤ◌, ◌*ℤ◌, List, [], ◌∷◌, ⊎_elim}
use Rattle.std.proofs.lemmas.Bool.{cases_eq}
use Rattle.std.proofs.lemmas.Bool.Decides.{nat_tests}
use Rattle.std.proofs.lemmas.Int.{ints}
use Rattle.zr_base.proofs.Ring.{spread}
use Rattle.zr_base.specs.Sums.{sum_to}
use Rattle.zr_base.specs.Terms.{Ascends, coef_at, value_at}

pub sum_to_same : (n : ℕ) (f g : ℕ → ℤ) → ((j : ℕ) → j < n → f j ≡ g j) → sum_to n f ≡ sum_to n g
sum_to_same zero f g h = refl
sum_to_same (suc n) f g h =
    ap₂ ◌+ℤ◌ (sum_to_same n f g (λ j p. h j (omega arith))) (h n (omega arith))

pub sum_to_zero : (n : ℕ) → sum_to n (λ j. pos 0) ≡ pos 0
sum_to_zero zero = refl
sum_to_zero (suc n) = let r = sum_to_zero n in omega (arith, ints, r)

pub sum_to-add : (n : ℕ) (f g : ℕ → ℤ) → sum_to n (λ j. f j +ℤ g j) ≡ sum_to n f +ℤ sum_to n g
sum_to-add zero f g = refl
sum_to-add (suc n) f g = let r = sum_to-add n f g in omega (arith, ints, r)

pub sum_to-mul : (n : ℕ) (m : ℤ) (f : ℕ → ℤ) → sum_to n (λ j. m *ℤ f j) ≡ m *ℤ sum_to n f
sum_to-mul zero m f = omega (arith, ints)
sum_to-mul (suc n) m f = let r = sum_to-mul n m f in ap (λ x. x +ℤ m *ℤ f n) r ∙ simp spread (omega (arith, ints))

-- two sums that differ at k alone
pub sum_to_at : (n k : ℕ) (f g : ℕ → ℤ) → k < n → ((j : ℕ) → j ≢ k → f j ≡ g j) → sum_to n f +ℤ g k ≡ sum_to n g +ℤ f k
sum_to_at zero k f g h same = absurd (omega arith)
sum_to_at (suc n) k f g h same = ⊎_elim (λ (e : n ≡ k). last e) (λ (a : n ≢ k). inner a (sum_to_at n k f g (omega arith) same)) (cases_eq n k)
  where
    last : n ≡ k → sum_to (suc n) f +ℤ g k ≡ sum_to (suc n) g +ℤ f k
    last e =
        let r = sum_to_same n f g (λ j p. same j (λ (s : j ≡ k). omega arith)) in
        rw (← e) (omega (arith, ints, r))

    inner : n ≢ k → sum_to n f +ℤ g k ≡ sum_to n g +ℤ f k → sum_to (suc n) f +ℤ g k ≡ sum_to (suc n) g +ℤ f k
    inner a r = let s = same n a in omega (arith, ints, r, s)

unlisted : (low columns : ℕ) (ts : List (ℕ × ℤ)) (j : ℕ) → Ascends low columns ts → j < low → coef_at ts j ≡ pos 0
unlisted low columns [] j a h = refl
unlisted low columns (t ∷ ts) j a h =
    let r = unlisted (t.0 + 1) columns ts j a.3 (omega (arith, a.0)) in
    grind (arith, nat_tests, r, a.0)

elsewhere : (t : ℕ × ℤ) (ts : List (ℕ × ℤ)) (j : ℕ) → j ≢ t.0 → coef_at (t ∷ ts) j ≡ coef_at ts j
elsewhere t ts j n = grind (arith, nat_tests)

pub value_dense : (low columns : ℕ) (ts : List (ℕ × ℤ)) (p : ℕ → ℤ) → Ascends low columns ts → value_at ts p ≡ sum_to columns (λ j. coef_at ts j *ℤ p j)
value_dense low columns [] p a =
    sym (sum_to_same columns (λ j. pos 0 *ℤ p j) (λ j. pos 0) (λ j h. omega (arith, ints)) ∙ sum_to_zero columns)
value_dense low columns (t ∷ ts) p a =
    let rest = value_dense (t.0 + 1) columns ts p a.3 in
    let here : coef_at (t ∷ ts) t.0 ≡ t.1 = grind (arith, nat_tests) in
    let none = unlisted (t.0 + 1) columns ts t.0 a.3 (omega arith) in
    let apart = sum_to_at columns t.0 (λ j. coef_at (t ∷ ts) j *ℤ p j) (λ j. coef_at ts j *ℤ p j) a.1 (λ j n. ap (λ x. x *ℤ p j) (elsewhere t ts j n)) in
    let e : t.1 *ℤ p t.0 ≡ coef_at (t ∷ ts) t.0 *ℤ p t.0 = ap (λ x. x *ℤ p t.0) (sym here) in
    let z : coef_at ts t.0 *ℤ p t.0 ≡ pos 0 = ap (λ x. x *ℤ p t.0) none ∙ omega (arith, ints) in
    omega (arith, ints, rest, apart, e, z)
