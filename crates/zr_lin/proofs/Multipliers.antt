-- Rows have a solution or listed multipliers that refute them.
use Rattle.std.proofs.Common.{◌≡◌, ◌≢◌, ℕ, zero, suc, ◌+◌, ◌<◌, ◌≤◌, arith, refl, sym, ap, subst, ◌∙◌, ℤ, pos, ◌+ℤ◌, ◌*ℤ◌, ◌≤ℤ◌, ◌<ℤ◌, Bool, true, false, ◌||◌, List, [], ◌∷◌, map, ◌⊎◌, ⊎_elim, inl, inr, if◌then◌else◌, ◌==◌}
use Rattle.std.proofs.lemmas.Int.{ints}
use Rattle.std.proofs.lemmas.Bool.{cases_eq}
use Rattle.std.proofs.lemmas.Bool.Decides.{nat_tests}
use Rattle.zr_base.specs.Sums.{sum_products, sum_to}
use Rattle.zr_base.specs.Terms.{Terms, AscendWith}
use Rattle.zr_base.proofs.Dense.{sum_to_zero, sum_to_at}
use Rattle.zr_lin.specs.DenseRows.{DenseRow, HasDenseSolution, HasRefutation, uses_strict}
use Rattle.zr_base.proofs.Worth.{Each}
use Rattle.zr_lin.proofs.Elimination.{Derived, IsDerived, Meets}
use Rattle.zr_lin.proofs.Alternative.{Good, Solution, Refutation, decide}

-- 1 at k
abbrev once : ℕ → ℕ → ℕ
once k i = if i == k then 1 else 0

-- row k by itself
abbrev itself : (ℕ → DenseRow) → ℕ → Derived
itself row k = record {
  coef = (row k).coef;
  le = (row k).le;
  strict = (row k).strict;
  weight = once k;
}

picked : (n k : ℕ) (f : ℕ → ℤ) → k < n → f k ≡ sum_to n (λ i. pos (once k i) *ℤ f i)
picked n k f h =
    let here : pos (once k k) *ℤ f k ≡ f k = ap (λ x. pos x *ℤ f k) (single k) ∙ omega (arith, ints) in
    let a = sum_to_at n k (λ i. pos (once k i) *ℤ f i) (λ i. pos 0) h (λ j c. ap (λ x. pos x *ℤ f j) (none j k c) ∙ omega (arith, ints)) in
    let z = sum_to_zero n in
    omega (arith, ints, here, a, z)
  where
    single : (k : ℕ) → once k k ≡ 1
    single k = grind (arith, nat_tests)

    none : (j k : ℕ) → j ≢ k → once k j ≡ 0
    none j k c = grind (arith, nat_tests)

itself_derived : (count : ℕ) (row : ℕ → DenseRow) (k : ℕ) → k < count → IsDerived count row (itself row k)
itself_derived count row k h = record {
  coefs = λ j. picked count k (λ i. (row i).coef j) h;
  right = picked count k (λ i. (row i).le) h;
  strict = λ e. (k, h, grind (arith, nat_tests), e);
}

abbrev starts : (ℕ → DenseRow) → ℕ → List Derived
starts row zero = []
starts row (suc m) = itself row m ∷ starts row m

starts_good : (count : ℕ) (row : ℕ → DenseRow) (columns m : ℕ) → m ≤ count → Each (Good count row columns columns) (starts row m)
starts_good count row columns zero h = tt
starts_good count row columns (suc m) h =
    ((itself_derived count row m (omega arith), λ j p q. absurd (omega arith)), starts_good count row columns m (omega arith))

at_start : (row : ℕ → DenseRow) (P : Derived → Type 0) (m k : ℕ) → k < m → Each P (starts row m) → P (itself row k)
at_start row P zero k h e = absurd (omega arith)
at_start row P (suc m) k h e =
    ⊎_elim (λ (s : k ≡ m). subst (λ x. P (itself row x)) (sym s) e.0) (λ (c : k ≢ m). at_start row P m k (omega arith) e.1) (cases_eq k m)

-- the rows from `low` on whose weight is above zero, with their weights
abbrev listed : ℕ → ℕ → (ℕ → ℕ) → Terms
listed low zero w = []
listed low (suc n) w =
    if w low == 0 then listed (low + 1) n w else (low, pos (w low)) ∷ listed (low + 1) n w

abbrev sum_from : ℕ → ℕ → (ℕ → ℤ) → ℤ
sum_from low zero f = pos 0
sum_from low (suc n) f = f low +ℤ sum_from (low + 1) n f

sum_from_last : (low n : ℕ) (f : ℕ → ℤ) → sum_from low (suc n) f ≡ sum_from low n f +ℤ f (low + n)
sum_from_last low zero f = let e : f low ≡ f (low + 0) = ap f (omega arith) in omega (arith, ints, e)
sum_from_last low (suc n) f =
    let r = sum_from_last (low + 1) n f in
    let e : f (low + 1 + n) ≡ f (low + suc n) = ap f (omega arith) in
    omega (arith, ints, r, e)

sum_from_all : (n : ℕ) (f : ℕ → ℤ) → sum_from 0 n f ≡ sum_to n f
sum_from_all zero f = refl
sum_from_all (suc n) f =
    let r = sum_from_all n f in
    let e : f (0 + n) ≡ f n = ap f (omega arith) in
    let l = sum_from_last 0 n f in
    omega (arith, ints, r, e, l)

or_true : (b : Bool) → (b || true) ≡ true
or_true true = refl
or_true false = refl

tested : (n : ℕ) → n ≢ 0 → (n == 0) ≡ false
tested n c = grind (arith, nat_tests)

lower : (low below count : ℕ) (ts : Terms) → low ≤ below → AscendWith (λ z. (pos 1) ≤ℤ z) below count ts → AscendWith (λ z. (pos 1) ≤ℤ z) low count ts
lower low below count [] h a = tt
lower low below count (t ∷ ts) h a = (omega (arith, a.0), a.1, a.2, a.3)

listed_multipliers : (low n count : ℕ) (w : ℕ → ℕ) → low + n ≤ count → AscendWith (λ z. (pos 1) ≤ℤ z) low count (listed low n w)
listed_multipliers low zero count w h = tt
listed_multipliers low (suc n) count w h =
    let rest = listed_multipliers (low + 1) n count w (omega arith) in
    ⊎_elim (λ (z : w low ≡ 0). rw z (lower low (low + 1) count (listed (low + 1) n w) (omega arith) rest)) (λ (c : w low ≢ 0). rw (tested (w low) c) (omega arith, omega arith, omega (arith, ints, c), rest)) (cases_eq (w low) 0)

listed_sum : (low n : ℕ) (w : ℕ → ℕ) (f : ℕ → ℤ) → sum_products (map (λ t. (t.1, f t.0)) (listed low n w)) ≡ sum_from low n (λ k. pos (w k) *ℤ f k)
listed_sum low zero w f = refl
listed_sum low (suc n) w f =
    let rest = listed_sum (low + 1) n w f in
    ⊎_elim (λ (z : w low ≡ 0). rw z (rest ∙ omega (arith, ints))) (λ (c : w low ≢ 0). rw (tested (w low) c) (ap (λ x. pos (w low) *ℤ f low +ℤ x) rest)) (cases_eq (w low) 0)

listed_strict : (row : ℕ → DenseRow) (low n k : ℕ) (w : ℕ → ℕ) → low ≤ k → k < low + n → 0 < w k → (row k).strict ≡ true → uses_strict row (listed low n w) ≡ true
listed_strict row low zero k w h l p s = absurd (omega arith)
listed_strict row low (suc n) k w h l p s =
    ⊎_elim (λ (e : k ≡ low). here e) (λ (c : k ≢ low). later (listed_strict row (low + 1) n k w (omega arith) (omega arith) p s)) (cases_eq k low)
  where
    here : k ≡ low → uses_strict row (listed low (suc n) w) ≡ true
    here e =
        let q : w low ≢ 0 = let f : w k ≡ w low = ap w e in omega arith in
        let t : (row low).strict ≡ true = subst (λ i. (row i).strict ≡ true) e s in
        rw (tested (w low) q) (rw t refl)

    later : uses_strict row (listed (low + 1) n w) ≡ true → uses_strict row (listed low (suc n) w) ≡ true
    later r = ⊎_elim (λ (z : w low ≡ 0). rw z r) (λ (c : w low ≢ 0). rw (tested (w low) c) (rw r (or_true (row low).strict))) (cases_eq (w low) 0)

-- weights that refute row 0, .., row (count - 1)
abbrev pub HasWeights : ℕ → ℕ → (ℕ → DenseRow) → Type 0
HasWeights columns count row =
    (w : ℕ → ℕ) × ((j : ℕ) → j < columns → sum_to count (λ k. pos (w k) *ℤ (row k).coef j) ≡ pos 0) × ((sum_to count (λ k. pos (w k) *ℤ (row k).le) <ℤ (pos 0)) ⊎ ((sum_to count (λ k. pos (w k) *ℤ (row k).le) ≡ pos 0) × ((k : ℕ) × (k < count) × (0 < w k) × ((row k).strict ≡ true))))

pub solution_or_weights : (columns count : ℕ) (row : ℕ → DenseRow) → HasDenseSolution columns count row ⊎ HasWeights columns count row
solution_or_weights columns count row =
    chosen (decide count row columns columns (starts row count) (starts_good count row columns count (omega arith)))
  where
    chosen : Solution count row columns columns (starts row count) ⊎ Refutation count row columns → HasDenseSolution columns count row ⊎ HasWeights columns count row
    chosen (inl s) = inl (s.0, s.1, (s.2, λ k h. at_start row (Meets columns s.0 s.1) count k h s.3))
    chosen (inr r) =
        inr (r.0.weight, (λ j h. sym (r.1.coefs j) ∙ r.2 j h), ⊎_elim (λ (n : r.0.le <ℤ (pos 0)). inl (rw r.1.right at n)) (λ (e : (r.0.le ≡ pos 0) × (r.0.strict ≡ true)). inr (sym r.1.right ∙ e.0, r.1.strict e.1)) r.3)

listed_refutation : (columns count : ℕ) (row : ℕ → DenseRow) → HasWeights columns count row → HasRefutation columns count row
listed_refutation columns count row r =
    let right = combined (λ k. (row k).le) in (
      listed 0 count r.0,
      listed_multipliers 0 count count r.0 (omega arith),
      ((λ j h. combined (λ k. (row k).coef j) ∙ r.1 j h), ⊎_elim (λ (n : sum_to count (λ k. pos (r.0 k) *ℤ (row k).le) <ℤ (pos 0)). inl (rw right n)) (λ (e : (sum_to count (λ k. pos (r.0 k) *ℤ (row k).le) ≡ pos 0) × ((k : ℕ) × (k < count) × (0 < r.0 k) × ((row k).strict ≡ true))). inr (right ∙ e.0, listed_strict row 0 count e.1.0 r.0 (omega arith) (let u = e.1.1 in omega (arith, u)) e.1.2 e.1.3)) r.2),
    )
  where
    combined : (f : ℕ → ℤ) → sum_products (map (λ t. (t.1, f t.0)) (listed 0 count r.0)) ≡ sum_to count (λ k. pos (r.0 k) *ℤ f k)
    combined f = listed_sum 0 count r.0 f ∙ sum_from_all count (λ k. pos (r.0 k) *ℤ f k)

-- rows of numbers of any size have a solution or multipliers that refute them
pub solution_or_refutation : (columns count : ℕ) (row : ℕ → DenseRow) → HasDenseSolution columns count row ⊎ HasRefutation columns count row
solution_or_refutation columns count row =
    ⊎_elim (λ (s : HasDenseSolution columns count row). inl s) (λ (w : HasWeights columns count row). inr (listed_refutation columns count row w)) (solution_or_weights columns count row)
