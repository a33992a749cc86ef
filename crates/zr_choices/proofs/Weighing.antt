-- Sums over listed multipliers as sums over all rows.
use Rattle.std.proofs.Common.{◌≡◌, ◌≢◌, ℕ, zero, suc, ◌+◌, ◌<◌, arith, refl, sym, ap, ◌∙◌, ℤ, pos, negsuc, ◌*ℤ◌, ◌≤ℤ◌, Bool, true, false, ◌||◌, [], ◌∷◌, map, ⊎_elim}
use Rattle.std.proofs.lemmas.Bool.{cases_eq}
use Rattle.std.proofs.lemmas.Int.{ints}
use Rattle.zr_base.specs.Sums.{sum_products, sum_to}
use Rattle.zr_base.specs.Terms.{Terms, AscendWith, coef_at}
use Rattle.zr_base.proofs.Dense.{sum_to_same, sum_to_zero, sum_to_at}
use Rattle.zr_lin.specs.DenseRows.{DenseRow, uses_strict}
use Rattle.zr_choices.proofs.Coefs.{here, past}

module _ (P : ℤ → Type 0) where
  unlisted : (low count : ℕ) (ts : Terms) (j : ℕ) → AscendWith P low count ts → j < low
      → coef_at ts j ≡ pos 0
  unlisted low count [] j a h = refl
  unlisted low count (t ∷ ts) j a h =
      past t ts j (λ e. omega (arith, a.0, h, e))
      ∙ unlisted (t.0 + 1) count ts j a.3 (omega (arith, a.0, h))

  pub weighed_sum : (low count : ℕ) (ts : Terms) (f : ℕ → ℤ) → AscendWith P low count ts
      → sum_products (map (λ t. (t.1, f t.0)) ts) ≡ sum_to count (λ r. coef_at ts r *ℤ f r)
  weighed_sum low count [] f a =
      sym (sum_to_same count (λ r. pos 0 *ℤ f r) (λ r. pos 0) (λ r h. omega (arith, ints))
      ∙ sum_to_zero count)
  weighed_sum low count (t ∷ ts) f a =
      let rest = weighed_sum (t.0 + 1) count ts f a.3 in
      let none = unlisted (t.0 + 1) count ts t.0 a.3 (omega arith) in
      let apart = sum_to_at count t.0 (λ r. coef_at (t ∷ ts) r *ℤ f r) (λ r. coef_at ts r *ℤ f r)
      a.1 (λ r n. ap (λ x. x *ℤ f r) (past t ts r (λ e. n (sym e)))) in
      let e : t.1 *ℤ f t.0 ≡ coef_at (t ∷ ts) t.0
      *ℤ f t.0 = ap (λ x. x *ℤ f t.0) (sym (here t ts t.0 refl)) in
      let z : coef_at ts t.0 *ℤ f t.0 ≡ pos 0 = ap (λ x. x *ℤ f t.0) none ∙ omega (arith, ints) in
      omega (arith, ints, rest, apart, e, z)

-- multipliers aren't below zero
pub from_zero : (low count : ℕ) (ts : Terms) (r : ℕ)
    → AscendWith (λ z. (pos 1) ≤ℤ z) low count ts → (pos 0) ≤ℤ coef_at ts r
from_zero low count [] r a = omega (arith, ints)
from_zero low count (t ∷ ts) r a =
    ⊎_elim (λ (e : t.0 ≡ r). first e) (λ (n : t.0 ≢ r). later n
    (from_zero (t.0 + 1) count ts r a.3)) (cases_eq t.0 r)
  where
    first : t.0 ≡ r → (pos 0) ≤ℤ coef_at (t ∷ ts) r
    first e = let h = here t ts r e in omega (arith, ints, h, a.2)

    later : t.0 ≢ r → (pos 0) ≤ℤ coef_at ts r → (pos 0) ≤ℤ coef_at (t ∷ ts) r
    later n k = let h = past t ts r n in omega (arith, ints, h, k)

or_true : (b : Bool) → (b || true) ≡ true
or_true true = refl
or_true false = refl

-- a strict row that is multiplied is used
pub strict_used : (row : ℕ → DenseRow) (ts : Terms) (r : ℕ) → (row r).strict ≡ true
    → coef_at ts r ≢ pos 0 → uses_strict row ts ≡ true
strict_used row [] r s n = absurd (n refl)
strict_used row (t ∷ ts) r s n =
    ⊎_elim (λ (e : t.0 ≡ r). first e) (λ (a : t.0 ≢ r). later
    (strict_used row ts r s (λ z. n (past t ts r a ∙ z)))) (cases_eq t.0 r)
  where
    first : t.0 ≡ r → uses_strict row (t ∷ ts) ≡ true
    first e =
        let f : (row t.0).strict ≡ true = ap (λ (i : ℕ). (row i).strict) e ∙ s in
        rw f refl

    later : uses_strict row ts ≡ true → uses_strict row (t ∷ ts) ≡ true
    later u = rw u (or_true (row t.0).strict)

-- of a sum that isn't zero some place isn't
pub some_place : (n : ℕ) (f : ℕ → ℤ) → sum_to n f ≢ pos 0 → (k : ℕ) × (k < n) × (f k ≢ pos 0)
some_place zero f h = absurd (h refl)
some_place (suc n) f h = by (f n) refl (some_place n f)
  where
    earlier : (k : ℕ) × (k < n) × (f k ≢ pos 0) → (k : ℕ) × (k < suc n) × (f k ≢ pos 0)
    earlier s = (s.0, let q = s.1 in omega (arith, q), s.2)

    by : (z : ℤ) → f n ≡ z → (sum_to n f ≢ pos 0 → (k : ℕ) × (k < n) × (f k ≢ pos 0)) → (k : ℕ)
        × (k < suc n) × (f k ≢ pos 0)
    by (pos zero) e rest = earlier (rest (λ s. h (omega (arith, ints, s, e))))
    by (pos (suc m)) e rest = (n, omega arith, λ z. let q : pos (suc m) ≡ pos 0 = sym e ∙ z in cc)
    by (negsuc m) e rest = (n, omega arith, λ z. let q : negsuc m ≡ pos 0 = sym e ∙ z in cc)
