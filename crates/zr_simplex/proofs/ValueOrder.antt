-- The value's column, then those off the basis, and then those of the rows, are an order that begins with the value.
use Rattle.std.proofs.Common.{◌≡◌, ◌≢◌, ℕ, zero, suc, ◌+◌, ◌-◌, ◌<◌, ◌≤◌, arith, refl, sym, ap, subst, ◌∙◌, ⊎_elim, List, ◌∷◌, ◌++◌, take, length, slice_index, length-append}
use Rattle.std.proofs.lemmas.List.{get_or_append_left, get_or-append_right, get_or-take, length-take-le}
use Rattle.zr_basis.specs.Programs.{Program}
use Rattle.zr_basis.specs.BasicForms.{value_column, IsFree}
use Rattle.zr_basis.specs.Orders.{IsValueOrder}
use Rattle.zr_basis.proofs.Signs.{side}
use Rattle.zr_basis.proofs.Solved.{in_basis}
use Rattle.zr_simplex.specs.Tableaus.{Equations, basis_of, free_of, order_of}
use Rattle.zr_simplex.specs.Dues.{IsTableau}
use Rattle.zr_simplex.proofs.Kept.{free_below, is_free, off_basis}

module _ (p : Program) (t : Equations) (kept : IsTableau p t) where
  off_long : length (take p.columns t.free) ≡ p.columns
  off_long = length-take-le p.columns t.free (omega (arith, kept.free_count))

  on_long : length (take p.rows t.basis) ≡ p.rows
  on_long = length-take-le p.rows t.basis (omega (arith, kept.count))

  abbrev listed : List ℕ
  listed = value_column p ∷ take p.columns t.free ++ take p.rows t.basis

  long : length (value_column p ∷ take p.columns t.free ++ take p.rows t.basis) ≡ value_column p + 1
  long =
      let both = length-append (take p.columns t.free) (take p.rows t.basis) in
      omega (arith, both, off_long, on_long)

  after : (k : ℕ) → slice_index (value_column p ∷ take p.columns t.free ++ take p.rows t.basis) (suc k) ≡ slice_index (take p.columns t.free ++ take p.rows t.basis) k
  after k = refl

  off_at : (k : ℕ) → k < p.columns → slice_index (value_column p ∷ take p.columns t.free ++ take p.rows t.basis) (k + 1) ≡ free_of t k
  off_at k h =
      let s : k + 1 ≡ suc k = omega arith in
      ap (slice_index (value_column p ∷ take p.columns t.free ++ take p.rows t.basis)) s ∙ after k ∙ get_or_append_left (take p.columns t.free) (take p.rows t.basis) 0 k (omega (arith, h, off_long)) ∙ get_or-take p.columns t.free k 0 h

  on_at : (i : ℕ) → i < p.rows → slice_index (value_column p ∷ take p.columns t.free ++ take p.rows t.basis) (p.columns + 1 + i) ≡ basis_of t i
  on_at i h =
      let s : p.columns + 1 + i ≡ suc (p.columns + i) = omega arith in
      let r : p.columns + i - p.columns ≡ i = omega arith in
      ap (slice_index (value_column p ∷ take p.columns t.free ++ take p.rows t.basis)) s ∙ after (p.columns + i) ∙ get_or-append_right (take p.columns t.free) (take p.rows t.basis) p.columns (p.columns + i) 0 off_long (omega arith) ∙ ap (slice_index (take p.rows t.basis)) r ∙ get_or-take p.rows t.basis i 0 h

  inside_at : (k : ℕ) → k < value_column p + 1 → slice_index (value_column p ∷ take p.columns t.free ++ take p.rows t.basis) k ≤ value_column p
  inside_at zero h = omega arith
  inside_at (suc k) h = ⊎_elim (λ (b : k < p.columns). let s : suc k ≡ k + 1 = omega arith in let e = ap (slice_index (value_column p ∷ take p.columns t.free ++ take p.rows t.basis)) s ∙ off_at k b in let below = free_below p t kept k b in omega (arith, e, below)) (λ (b : p.columns ≤ k). let i : ℕ = k - p.columns in let s : suc k ≡ p.columns + 1 + i = omega (arith, b) in let q : i < p.rows = omega (arith, b, h) in let e = ap (slice_index (value_column p ∷ take p.columns t.free ++ take p.rows t.basis)) s ∙ on_at i q in let below = kept.form.columns i q in omega (arith, e, below)) (side k p.columns)

  each_at : (j : ℕ) → j < value_column p → (k : ℕ) × (k < length (value_column p ∷ take p.columns t.free ++ take p.rows t.basis)) × (slice_index (value_column p ∷ take p.columns t.free ++ take p.rows t.basis) k ≡ j)
  each_at j h = ⊎_elim (λ (g : (i : ℕ) × (i < p.rows) × (j ≡ basis_of t i)). (p.columns + 1 + g.0, (let b = g.1 in omega (arith, b, long)), on_at g.0 g.1 ∙ sym g.2)) (λ (out : (i : ℕ) → i < p.rows → j ≢ basis_of t i). let at = off_basis p t kept j h out in (at.0 + 1, (let b = at.1 in omega (arith, b, long)), off_at at.0 at.1 ∙ at.2)) (in_basis (basis_of t) p.rows j)

  pub is_value_order : (columns : List ℕ) → columns ≡ value_column p ∷ take p.columns t.free ++ take p.rows t.basis → IsValueOrder p (basis_of t) (order_of columns)
  is_value_order columns is = rw is (record {
    ordered = record { inside = λ k h. inside_at k (omega (arith, h, long)); each = each_at };
    count = long;
    value = refl;
    off = λ k h. subst (λ c. IsFree p (basis_of t) c) (sym (off_at k h)) (is_free p t kept k h);
    once = λ j k h q e. kept.partition.free_once j k (omega (arith, h, kept.free_count)) (omega (arith, q, kept.free_count)) (sym (off_at j h) ∙ e ∙ off_at k q);
    on = on_at;
  })
