-- When a row holds: by a sum over all columns, and whatever denominator the point has.
use Rattle.std.proofs.Common.{◌≡◌, ◌↔◌, ℕ, zero, suc, map, arith, refl, sym, ap, ap₂, subst, ◌∙◌, ℤ, pos, ◌+ℤ◌, ◌*ℤ◌, ◌<ℤ◌, ◌≤ℤ◌, List, [], ◌∷◌, slice_index_or}
use Rattle.std.proofs.lemmas.Int.{ints}
use Rattle.std.proofs.lemmas.List.{length-map}
use Rattle.zr_base.specs.Sums.{sum_products, sum_to}
use Rattle.zr_base.specs.Terms.{Terms, Ascends, coef_at, value_at}
use Rattle.zr_base.specs.Points.{PointOf, IsSamePoint, num_of}
use Rattle.zr_base.specs.Rows.{RowOf, RowHolds, products}
use Rattle.zr_base.proofs.Ring.{spread, mul_assoc}
use Rattle.zr_base.proofs.Worth.{le_times, le_of_times}
use Rattle.zr_base.proofs.Divisors.{mul_positive}
use Rattle.zr_base.proofs.Dense.{value_dense}

pub products_value : (ts : Terms) (num : List ℤ) → sum_products (products ts num) ≡ value_at ts (λ j. slice_index_or num j (pos 0))
products_value [] num = refl
products_value (t ∷ ts) num = ap (λ z. t.1 *ℤ slice_index_or num t.0 (pos 0) +ℤ z) (products_value ts num)

pub value_same : (ts : Terms) (p q : ℕ → ℤ) → ((j : ℕ) → p j ≡ q j) → value_at ts p ≡ value_at ts q
value_same [] p q h = refl
value_same (t ∷ ts) p q h = ap₂ ◌+ℤ◌ (ap (λ z. t.1 *ℤ z) (h t.0)) (value_same ts p q h)

pub value_at-mul : (ts : Terms) (p : ℕ → ℤ) (e : ℤ) → value_at ts (λ j. p j *ℤ e) ≡ value_at ts p *ℤ e
value_at-mul [] p e = omega (arith, ints)
value_at-mul (t ∷ ts) p e = ap₂ ◌+ℤ◌ (sym (mul_assoc t.1 (p t.0) e)) (value_at-mul ts p e) ∙ gather (t.1 *ℤ p t.0) (value_at ts p) e
  where
    gather : (a b e : ℤ) → a *ℤ e +ℤ b *ℤ e ≡ (a +ℤ b) *ℤ e
    gather a b e = simp spread (omega (arith, ints))

-- values over one denominator are as far below a bound as the same values over another
bound_moved : (v w le d e : ℤ) → (pos 0) <ℤ d → (pos 0) <ℤ e → v *ℤ e ≡ w *ℤ d → v ≤ℤ (le *ℤ d) → w ≤ℤ (le *ℤ e)
bound_moved v w le d e above below same h =
    let s = le_times v (le *ℤ d) e below h in
    le_of_times w (le *ℤ e) d above (simp spread (omega (arith, ints, simp spread at s, same)))

module _ (ts : Terms) (le : ℤ) (p : ℕ → ℤ) (d : ℤ) (q : ℕ → ℤ) (e : ℤ) (above : (pos 0) <ℤ d) (below : (pos 0) <ℤ e) (same : (j : ℕ) → p j *ℤ e ≡ q j *ℤ d) where
  one_value : value_at ts p *ℤ e ≡ value_at ts q *ℤ d
  one_value =
      sym (value_at-mul ts p e) ∙ value_same ts (λ j. p j *ℤ e) (λ j. q j *ℤ d) same ∙ value_at-mul ts q d

  -- a row holds at a point exactly where it holds at one with the same values
  pub bound_same : (value_at ts p ≤ℤ (le *ℤ d)) ↔ (value_at ts q ≤ℤ (le *ℤ e))
  bound_same =
      (bound_moved (value_at ts p) (value_at ts q) le d e above below one_value, bound_moved (value_at ts q) (value_at ts p) le e d below above (sym one_value))

-- a row holds at (p, d) exactly where it holds at (p * e, d * e)
pub bound_scaled : (ts : Terms) (le : ℤ) (p : ℕ → ℤ) (d e : ℤ) → (pos 0) <ℤ e → (value_at ts p ≤ℤ (le *ℤ d)) ↔ (value_at ts (λ j. p j *ℤ e) ≤ℤ (le *ℤ (d *ℤ e)))
bound_scaled ts le p d e positive =
    (λ h. rw (value_at-mul ts p e, ← mul_assoc le d e) (le_times (value_at ts p) (le *ℤ d) e positive h), λ h. le_of_times (value_at ts p) (le *ℤ d) e positive (rw (value_at-mul ts p e, ← mul_assoc le d e) at h))

pub row_holds_value : (x : PointOf) (row : RowOf) → RowHolds x row ↔ (value_at row.coef (num_of x) ≤ℤ (row.le *ℤ x.den))
row_holds_value x row =
    let e = products_value row.coef x.num in
    (λ h. subst (λ z. z ≤ℤ (row.le *ℤ x.den)) e h, λ h. subst (λ z. z ≤ℤ (row.le *ℤ x.den)) (sym e) h)

-- the sum goes over all columns
pub row_holds_dense : (x : PointOf) (row : RowOf) (columns : ℕ) → Ascends 0 columns row.coef → RowHolds x row ↔ (sum_to columns (λ j. coef_at row.coef j *ℤ num_of x j) ≤ℤ (row.le *ℤ x.den))
row_holds_dense x row columns ascends =
    let e = products_value row.coef x.num ∙ value_dense 0 columns row.coef (num_of x) ascends in
    (λ h. subst (λ z. z ≤ℤ (row.le *ℤ x.den)) e h, λ h. subst (λ z. z ≤ℤ (row.le *ℤ x.den)) (sym e) h)

pub row_holds_same : (x y : PointOf) (row : RowOf) → IsSamePoint x y → RowHolds x row → RowHolds y row
row_holds_same x y row same h =
    let moved = bound_same row.coef row.le (num_of x) x.den (num_of y) y.den same.left same.right same.values in
    (row_holds_value y row).1 (moved.0 ((row_holds_value x row).0 h))

-- all numbers of a point times e
abbrev pub scaled : PointOf → ℤ → PointOf
scaled x e = record { num = map (λ n. n *ℤ e) x.num; den = x.den *ℤ e }

pub num_of-scaled : (x : PointOf) (e : ℤ) (v : ℕ) → num_of (scaled x e) v ≡ num_of x v *ℤ e
num_of-scaled x e v = at x.num v
  where
    at : (xs : List ℤ) (v : ℕ) → slice_index_or (map (λ n. n *ℤ e) xs) v (pos 0) ≡ slice_index_or xs v (pos 0) *ℤ e
    at [] v = omega (arith, ints)
    at (x ∷ xs) zero = refl
    at (x ∷ xs) (suc v) = at xs v

pub same_scaled : (x : PointOf) (e : ℤ) → (pos 0) <ℤ x.den → (pos 0) <ℤ e → IsSamePoint x (scaled x e)
same_scaled x e p q = record {
  left = p;
  right = mul_positive x.den e p q;
  len = sym (length-map x.num (λ n. n *ℤ e));
  values = λ v. moved (num_of x v) x.den e ∙ ap (λ z. z *ℤ x.den) (sym (num_of-scaled x e v));
}
  where
    moved : (n d e : ℤ) → n *ℤ (d *ℤ e) ≡ (n *ℤ e) *ℤ d
    moved n d e = simp spread

pub row_holds_scaled : (x : PointOf) (e : ℤ) (row : RowOf) → (pos 0) <ℤ e → RowHolds x row ↔ RowHolds (scaled x e) row
row_holds_scaled x e row positive =
    let here = row_holds_value x row in
    let there = row_holds_value (scaled x e) row in
    let same = value_same row.coef (num_of (scaled x e)) (λ j. num_of x j *ℤ e) (num_of-scaled x e) in
    let both = bound_scaled row.coef row.le (num_of x) x.den e positive in
    (λ h. there.1 (rw same (both.0 (here.0 h))), λ h. here.1 (both.1 (rw same at (there.0 h))))
