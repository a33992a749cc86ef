-- What the kept equations say of their parts.
use Rattle.std.proofs.Common.{◌≡◌, ◌≢◌, ℕ, arith, refl, ℤ, pos, ◌≤ℤ◌, zero, suc, All, [], ◌∷◌, List, length, slice_index, ap, sym, ◌∙◌, ◌<◌, ◌≤◌, ⊎_elim}
use Rattle.std.proofs.lemmas.Bool.{cases_eq}
use Rattle.std.proofs.lemmas.Int.{ints}
use Rattle.zr_basis.proofs.Solved.{in_basis}
use Rattle.zr_basis.specs.Programs.{Program}
use Rattle.zr_basis.specs.BasicForms.{right_column, value_column, IsFree}
use Rattle.zr_simplex.specs.Programs.{numbers}
use Rattle.zr_simplex.specs.RowSteps.{IsSolved}
use Rattle.zr_simplex.specs.Tableaus.{Equations, basis_of, form_of, free_of}
use Rattle.zr_simplex.specs.Dues.{IsTableau}

pub solved_of : (p : Program) (t : Equations) → IsTableau p t → IsSolved (length t.basis) t.width (basis_of t) (form_of t)
unfolding form_of
solved_of p t kept = record {
  places = λ i h. ⊎_elim (λ (s : i ≡ p.rows). let v = kept.form.value in rw s (omega (arith, v, kept.width))) (λ (a : i ≢ p.rows). let c = kept.form.columns i (omega (arith, h, kept.count)) in omega (arith, c, kept.width)) (cases_eq i p.rows);
  own = λ i h. kept.form.own i (omega (arith, h, kept.count));
  other = λ i k h q apart. kept.form.other i k (omega (arith, h, kept.count)) (omega (arith, q, kept.count)) apart;
  primitive = λ i h. rw kept.width (kept.form.primitive i (omega (arith, h, kept.count)));
}

pub zeros_at : (xs : List ℤ) (j : ℕ) → All (λ z. z ≡ pos 0) xs → numbers xs j ≡ pos 0
zeros_at [] j all = refl
zeros_at (x ∷ xs) zero all = all zero (pos 0) (omega arith)
zeros_at (x ∷ xs) (suc j) all = zeros_at xs j (λ k d h. all (suc k) d (omega arith))

-- the columns off the basis, by their places
module _ (p : Program) (t : Equations) (kept : IsTableau p t) where
  pub free_below : (k : ℕ) → k < p.columns → free_of t k < value_column p
  free_below k h =
      let below = kept.partition.free_below k (omega (arith, h, kept.free_count)) in
      let right : free_of t k ≢ right_column p = λ e. (let s = kept.partition.free_once k p.columns (omega (arith, h, kept.free_count)) (omega (arith, kept.free_count)) (e ∙ sym kept.right) in omega (arith, s, h)) in
      let value : free_of t k ≢ value_column p = λ e. kept.partition.apart p.rows k (omega (arith, kept.count)) (omega (arith, h, kept.free_count)) (kept.form.value ∙ sym e) in
      omega (arith, below, right, value, kept.width)

  pub free_apart : (k : ℕ) → k < p.columns → (i : ℕ) → i ≤ p.rows → free_of t k ≢ basis_of t i
  free_apart k h i q e =
      kept.partition.apart i k (omega (arith, q, kept.count)) (omega (arith, h, kept.free_count)) (sym e)

  pub off_basis : (j : ℕ) → j < value_column p → ((i : ℕ) → i < p.rows → j ≢ basis_of t i) → (k : ℕ) × (k < p.columns) × (free_of t k ≡ j)
  off_basis j below out = ⊎_elim (λ (x : (i : ℕ) × (i < length t.basis) × (slice_index t.basis i ≡ j)). absurd (never x.0 x.1 x.2)) (λ (x : (k : ℕ) × (k < length t.free) × (slice_index t.free k ≡ j)). at_place x.0 x.1 x.2) (kept.partition.each j (omega (arith, below, kept.width)))
    where
      never : (i : ℕ) → i < length t.basis → slice_index t.basis i ≡ j → ⊥
      never i h e = ⊎_elim (λ (s : i ≡ p.rows). let v = ap (basis_of t) s in omega (arith, v, e, below, kept.form.value)) (λ (a : i ≢ p.rows). out i (omega (arith, h, a, kept.count)) (sym e)) (cases_eq i p.rows)

      at_place : (k : ℕ) → k < length t.free → slice_index t.free k ≡ j → (k : ℕ) × (k < p.columns) × (free_of t k ≡ j)
      at_place k h e = ⊎_elim (λ (s : k ≡ p.columns). let v = ap (free_of t) s in absurd (omega (arith, v, e, below, kept.right))) (λ (a : k ≢ p.columns). (k, omega (arith, h, a, kept.free_count), e)) (cases_eq k p.columns)

  pub is_free : (k : ℕ) → k < p.columns → IsFree p (basis_of t) (free_of t k)
  is_free k h = (free_below k h, λ i q. free_apart k h i (omega (arith, q)))

  pub free_place : (j : ℕ) → IsFree p (basis_of t) j → (k : ℕ) × (k < p.columns) × (free_of t k ≡ j)
  free_place j free = off_basis j free.0 free.1

  -- where the value falls along no column off the basis, it falls along none
  pub falls_nowhere : ((k : ℕ) → k < p.columns → form_of t p.rows (free_of t k) ≤ℤ (pos 0)) → (j : ℕ) → j < value_column p → form_of t p.rows j ≤ℤ (pos 0)
  falls_nowhere low j h = ⊎_elim (λ (g : (i : ℕ) × (i < p.rows) × (j ≡ basis_of t i)). let z = ap (form_of t p.rows) g.2 ∙ kept.form.other p.rows g.0 (omega arith) (omega (arith, g.1)) (λ e. omega (arith, e, g.1)) in omega (arith, ints, z)) (λ (out : (i : ℕ) → i < p.rows → j ≢ basis_of t i). let at = off_basis j h out in rw (← at.2) (low at.0 at.1)) (in_basis (basis_of t) p.rows j)
