-- Where the columns stand at the start, and what the first condensed equations stand for.
use Rattle.std.proofs.Common.{◌≡◌, ◌≢◌, ℕ, ◌+◌, ◌-◌, ◌<◌, ◌≤◌, arith, sym, ap, ◌∙◌, ⊎_elim, ℤ, pos, List, length, slice_index}
use Rattle.std.proofs.lemmas.Bool.{cases_eq, cases_lt}
use Rattle.zr_simplex.specs.declared.columns.Column.{Column}
use Rattle.zr_simplex.specs.declared.columns.Column.TheVariants.{Basic, Free}
use Rattle.zr_simplex.specs.Programs.{numbers}
use Rattle.zr_simplex.specs.RowSteps.{IsFirst, IsFirstEquation}
use Rattle.zr_simplex.specs.Tableaus.{AreColumns, Holds, column_at}
use Rattle.zr_simplex.proofs.Condensed.{full, full_free, full_own, full_zero}

-- the first columns off the basis, then the slacks and the value's in it, and last that of the right sides off it
pub record AreFirst (n m : ℕ) (basis free : List ℕ) (columns : List Column) : Type 0 where
  pub basis_long : length basis ≡ m + 1
  pub free_long : length free ≡ n + 1
  pub long : length columns ≡ n + m + 2
  pub slacks : (i : ℕ) → i < m + 1 → slice_index basis i ≡ n + i
  pub off : (k : ℕ) → k < n → slice_index free k ≡ k
  pub last : slice_index free n ≡ n + m + 1
  pub at_off : (k : ℕ) → k < n → column_at columns k ≡ Free k
  pub at_slack : (i : ℕ) → i ≤ m → column_at columns (n + i) ≡ Basic i
  pub at_last : column_at columns (n + m + 1) ≡ Free n

module _ {n m : ℕ} {basis free : List ℕ} {columns : List Column} (are : AreFirst n m basis free columns) where
  -- a column is one of the first, or a slack or the value's, or the last
  by_kind : (P : ℕ → Type 0) → ((k : ℕ) → k < n → P k) → ((i : ℕ) → i ≤ m → P (n + i)) → P (n + m + 1) → (j : ℕ) → j < length columns → P j
  by_kind P off slack last j h = ⊎_elim (λ (a : j < n). off j a) (λ (a : n ≤ j). ⊎_elim (λ (b : j < n + m + 1). let e : j ≡ n + (j - n) = omega arith in rw e (slack (j - n) (omega arith))) (λ (b : n + m + 1 ≤ j). let e : j ≡ n + m + 1 = omega (arith, are.long) in rw e last) (cases_lt j (n + m + 1))) (cases_lt j n)

  pub are_columns : AreColumns basis free columns
  are_columns = record {
    basic_at = λ i h. let q : i < m + 1 = rw are.basis_long at h in rw (are.slacks i q) (omega (arith, are.long, q), are.at_slack i (omega arith));
    free_at = λ k h. ⊎_elim (λ (e : k ≡ n). rw (e, are.last) (omega (arith, are.long), are.at_last)) (λ (a : k ≢ n). let q : k < n = omega (arith, are.free_long, h, a) in rw (are.off k q) (omega (arith, are.long, q), are.at_off k q)) (cases_eq k n);
    each = by_kind (λ j. Holds basis free j (column_at columns j)) (λ k h. rw (are.at_off k h) (omega (arith, are.free_long, h), are.off k h)) (λ i h. rw (are.at_slack i h) (omega (arith, are.basis_long, h), are.slacks i (omega arith))) (rw are.at_last (omega (arith, are.free_long), are.last));
  }

  module _ (i : ℕ) (row : i ≤ m) (coef : ℕ → ℤ) (le : ℤ) (xs : List ℤ) (first : IsFirst n coef le (numbers xs)) where
    abbrev form : ℕ → ℤ
    form = full columns (length free) i xs

    basic_row : i < length basis
    basic_row = omega (arith, are.basis_long, row)

    own_value : full columns (length free) i xs (n + i) ≡ pos 1
    own_value = ap form (sym (are.slacks i (omega arith))) ∙ full_own are_columns i xs basic_row ∙ ap (numbers xs) are.free_long ∙ first.one

    zero_value : (j : ℕ) → n ≤ j → j < n + m + 1 → j ≢ n + i → full columns (length free) i xs j ≡ pos 0
    zero_value j a b other =
        let k = j - n in
        let e : j ≡ n + k = omega arith in
        let q : k < m + 1 = omega arith in
        ap form (e ∙ sym (are.slacks k q)) ∙ full_zero are_columns i xs k (rw are.basis_long q) (λ s. other (omega (arith, s, e)))

    pub first_start : IsFirstEquation n (n + m) (n + i) coef le (full columns (length free) i xs)
    first_start = record {
      coefs = λ j h. ap form (sym (are.off j h)) ∙ full_free are_columns i xs j (omega (arith, are.free_long, h)) ∙ first.coefs j h;
      one = own_value;
      right = ap form (sym are.last) ∙ full_free are_columns i xs n (omega (arith, are.free_long)) ∙ first.right;
      zeros = λ j a b other. zero_value j a (omega (arith, b)) other;
    }
