-- The sum of a row's terms at a point is that over all columns, step by step.
use Rattle.std.proofs.Common.{◌≡◌, ◌≢◌, ℕ, zero, suc, ◌+◌, ◌<◌, ◌≤◌, arith, refl, sym, ap, ap₂, subst, ◌∙◌, ℤ, pos, neg_ℤ, ◌+ℤ◌, ◌-ℤ◌, ◌*ℤ◌, List, [], ◌∷◌, get_or, Result, Ok, Err, ⊎_elim}
use Rattle.std.proofs.lemmas.Int.{ints}
use Rattle.std.proofs.lemmas.Bool.{cases_eq}
use Rattle.std.proofs.lemmas.Bool.Decides.{nat_tests}
use Rattle.zr_base.specs.declared.step.Wide.{Wide}
use Rattle.zr_base.specs.Steps.{IsNarrow, cross_of, narrow_cross, ◌>>=◌}
use Rattle.zr_base.specs.Sums.{sum_products, sum_step, sum_steps, sum_to}
use Rattle.zr_base.specs.Terms.{AscendWith, Terms, coef_at}
use Rattle.zr_base.specs.Rows.{products}
use Rattle.zr_base.proofs.CrossLaws.{narrow_is}
use Rattle.zr_base.proofs.Dense.{sum_to_same}
use Rattle.zr_base.proofs.SumSteps.{sum_step_narrow}
use Rattle.zr_tree.specs.CoverSteps.{column_products}

-- 0 times a number is never too wide
zero_step : (s b : ℤ) → IsNarrow s → sum_step s (pos 0, b) ≡ Ok s
unfolding cross_of narrow_cross
zero_step s b h =
    let product : pos 0 *ℤ b ≡ pos 0 = omega (arith, ints) in
    let z : IsNarrow (pos 0) = omega arith in
    let one : neg_ℤ s *ℤ pos 1 ≡ neg_ℤ s = omega (arith, ints) in
    let n : IsNarrow (neg_ℤ s) = omega (arith, ints) in
    let back : pos 0 -ℤ neg_ℤ s ≡ s = omega (arith, ints) in
    rw (product, one, narrow_is (pos 0) z, narrow_is (neg_ℤ s) n, back, narrow_is s h) refl

-- the numbers before column `low` don't matter
same_products : (low n : ℕ) (f g p : ℕ → ℤ) → ((j : ℕ) → low ≤ j → f j ≡ g j)
    → column_products low n f p ≡ column_products low n g p
same_products low zero f g p h = refl
same_products low (suc n) f g p h =
    ap₂ (λ (a : ℤ) (ts : List (ℤ × ℤ)). (a, p low) ∷ ts) (h low (omega arith))
    (same_products (suc low) n f g p (λ j q. h j (omega (arith, q))))

-- columns without numbers add nothing
no_products : (low n : ℕ) (f p : ℕ → ℤ) (s : ℤ) → IsNarrow s
    → ((j : ℕ) → low ≤ j → f j ≡ pos 0) → sum_steps s (column_products low n f p) ≡ Ok s
no_products low zero f p s narrow h = refl
no_products low (suc n) f p s narrow h =
    let step : sum_step s (f low, p low) ≡ Ok s =
    ap (λ (a : ℤ). sum_step s (a, p low)) (h low (omega arith)) ∙ zero_step s (p low) narrow in
    ap (λ (r : Result ℤ Wide). r >>= λ v. sum_steps v (column_products (suc low) n f p)) step ∙
    no_products (suc low) n f p s narrow (λ j q. h j (omega (arith, q)))

module _ (P : ℤ → Type 0) where
  before_all : (low columns : ℕ) (ts : Terms) (j : ℕ) → AscendWith P low columns ts → j < low
      → coef_at ts j ≡ pos 0
  before_all low columns [] j a h = refl
  before_all low columns (t ∷ ts) j a h =
      let r = before_all (t.0 + 1) columns ts j a.3 (omega (arith, a.0, h)) in
      grind (arith, nat_tests, r, a.0, h)

  elsewhere : (t : ℕ × ℤ) (ts : Terms) (j : ℕ) → j ≢ t.0 → coef_at (t ∷ ts) j ≡ coef_at ts j
  elsewhere t ts j n = grind (arith, nat_tests)

  onward : (r : Result ℤ Wide) (f g : ℤ → Result ℤ Wide) → ((v : ℤ) → r ≡ Ok v → f v ≡ g v)
      → (r >>= f) ≡ (r >>= g)
  onward (Ok v) f g same = same v refl
  onward (Err w) f g same = refl

  module _ (n low : ℕ) (t : ℕ × ℤ) (ts : Terms) (num : List ℤ) (s : ℤ)
      (a : AscendWith P low (low + suc n) (t ∷ ts)) where
    abbrev p : ℕ → ℤ
    p = λ j. get_or num j (pos 0)

    abbrev later_sums : ℤ → Result ℤ Wide
    later_sums = λ v. sum_steps v (column_products (suc low) n (coef_at (t ∷ ts)) p)

    next : low + suc n ≡ suc low + n
    next = omega arith

    -- the first term is at this column
    here : t.0 ≡ low
        → ((v : ℤ) → AscendWith P (suc low) (suc low + n) ts → IsNarrow v
        → sum_steps v (products ts num)
        ≡ sum_steps v (column_products (suc low) n (coef_at ts) p))
        → sum_steps s (products (t ∷ ts) num)
        ≡ sum_steps s (column_products low (suc n) (coef_at (t ∷ ts)) p)
    here e on =
        let one : coef_at (t ∷ ts) low ≡ t.1 = grind (arith, nat_tests) in
        let first : sum_step s (t.1, get_or num t.0 (pos 0))
        ≡ sum_step s (coef_at (t ∷ ts) low, get_or num low (pos 0)) =
        ap₂ (λ (b : ℤ) (k : ℕ). sum_step s (b, get_or num k (pos 0))) (sym one) e in
        let rest = same_products (suc low) n (coef_at (t ∷ ts)) (coef_at ts) p
        (λ j q. elsewhere t ts j (omega (arith, q, e))) in
        let up : t.0 + 1 ≡ suc low = omega (arith, e) in
        let form : AscendWith P (suc low) (suc low + n) ts =
        subst (λ (c : ℕ). AscendWith P (suc low) c ts) next
        (subst (λ (l : ℕ). AscendWith P l (low + suc n) ts) up a.3) in
        onward (sum_step s (t.1, get_or num t.0 (pos 0))) (λ v. sum_steps v (products ts num))
        later_sums
        (λ v made. on v form (sum_step_narrow s v _ made) ∙ ap (sum_steps v) (sym rest)) ∙
        ap (λ (r : Result ℤ Wide). r >>= later_sums) first

    -- it is at a later one
    later : IsNarrow s → t.0 ≢ low
        → (AscendWith P (suc low) (suc low + n) (t ∷ ts)
        → sum_steps s (products (t ∷ ts) num) ≡ later_sums s)
        → sum_steps s (products (t ∷ ts) num)
        ≡ sum_steps s (column_products low (suc n) (coef_at (t ∷ ts)) p)
    later narrow e on =
        let form : AscendWith P (suc low) (low + suc n) (t ∷ ts) =
        (omega (arith, a.0, e), a.1, a.2, a.3) in
        let none = before_all (suc low) (low + suc n) (t ∷ ts) low form (omega arith) in
        let first : sum_step s (coef_at (t ∷ ts) low, p low) ≡ Ok s =
        ap (λ (b : ℤ). sum_step s (b, p low)) none ∙ zero_step s (p low) narrow in
        on (subst (λ (c : ℕ). AscendWith P (suc low) c (t ∷ ts)) next form) ∙
        sym (ap (λ (r : Result ℤ Wide). r >>= later_sums) first)

  -- the terms' products, and those of all columns
  pub column_sums : (n low : ℕ) (ts : Terms) (num : List ℤ) (s : ℤ)
      → AscendWith P low (low + n) ts → IsNarrow s
      → sum_steps s (products ts num)
      ≡ sum_steps s (column_products low n (coef_at ts) (λ j. get_or num j (pos 0)))
  column_sums zero low [] num s a narrow = refl
  column_sums zero low (t ∷ ts) num s a narrow = absurd (omega (arith, a.0, a.1))
  column_sums (suc n) low [] num s a narrow =
      sym (no_products low (suc n) (coef_at []) (λ j. get_or num j (pos 0)) s narrow (λ j q. refl))
  column_sums (suc n) low (t ∷ ts) num s a narrow =
      ⊎_elim (λ (e : t.0 ≡ low). here n low t ts num s a e
      (λ v form small. column_sums n (suc low) ts num v form small))
      (λ (e : t.0 ≢ low). later n low t ts num s a narrow e
      (λ form. column_sums n (suc low) (t ∷ ts) num s form narrow)) (cases_eq t.0 low)

-- the first of so many
pub first_apart : (n : ℕ) (g : ℕ → ℤ) → sum_to (suc n) g ≡ g 0 +ℤ sum_to n (λ j. g (suc j))
first_apart zero g = omega (arith, ints)
first_apart (suc n) g = let r = first_apart n g in omega (arith, ints, r)

from_low : (low n : ℕ) (f p : ℕ → ℤ)
    → sum_products (column_products low n f p) ≡ sum_to n (λ j. f (low + j) *ℤ p (low + j))
from_low low zero f p = refl
from_low low (suc n) f p =
    let r = from_low (suc low) n f p in
    let a = first_apart n (λ j. f (low + j) *ℤ p (low + j)) in
    let z : low + 0 ≡ low = omega arith in
    let first : f (low + 0) *ℤ p (low + 0) ≡ f low *ℤ p low =
    ap (λ (k : ℕ). f k *ℤ p k) z in
    let rest = sum_to_same n (λ j. f (suc low + j) *ℤ p (suc low + j))
    (λ j. f (low + suc j) *ℤ p (low + suc j))
    (λ j h. let e : suc low + j ≡ low + suc j = omega arith in ap (λ (k : ℕ). f k *ℤ p k) e) in
    omega (arith, ints, r, a, first, rest)

-- the value of all columns' products
pub column_values : (n : ℕ) (f p : ℕ → ℤ)
    → sum_products (column_products 0 n f p) ≡ sum_to n (λ j. f j *ℤ p j)
column_values n f p =
    from_low 0 n f p ∙ sum_to_same n (λ j. f (0 + j) *ℤ p (0 + j)) (λ j. f j *ℤ p j)
    (λ j h. let e : 0 + j ≡ j = omega arith in ap (λ (k : ℕ). f k *ℤ p k) e)
