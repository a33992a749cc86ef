-- The basic form after an equation has come in before the value's.
use Rattle.std.proofs.Common.{◌≡◌, ◌≢◌, ℕ, ◌+◌, ◌<◌, arith, refl, sym, ap, ◌∙◌, ℤ, pos, ◌*ℤ◌, ◌<ℤ◌, List, length, slice_index}
use Rattle.std.proofs.lemmas.Int.{ints}
use Rattle.zr_basis.specs.BasicForms.{IsPrimitive}
use Rattle.zr_simplex.specs.declared.columns.Column.{Column}
use Rattle.zr_simplex.specs.declared.columns.Column.TheVariants.{Basic, Free}
use Rattle.zr_simplex.specs.Programs.{numbers}
use Rattle.zr_simplex.specs.RowSteps.{IsQuotient}
use Rattle.zr_simplex.specs.Tableaus.{AreColumns, Holds, column_at, form_in, number_at, row_in}
use Rattle.zr_simplex.specs.Appends.{IsCondensed, extended}
use Rattle.zr_simplex.proofs.Stands.{partition_of}
use Rattle.zr_simplex.proofs.Condensed.{full_reads, own_number, primitive_out, zero_number}
use Rattle.zr_simplex.proofs.Enlarged.{by_column, extends}

-- the columns as they stand before and after, the rows before and after
pub record IsAdded (basis free : List ℕ) (columns : List Column) (ns : List ℤ) (next off : List ℕ) (then : List Column) (ms : List ℤ) (m n v : ℕ) : Type 0 where
  pub are : AreColumns basis free columns
  pub after : AreColumns next off then
  pub count : length basis ≡ m + 1
  pub free_count : length free ≡ n + 1
  pub next_count : length next ≡ m + 2
  pub off_count : length off ≡ n + 1
  pub long : length columns ≡ v + 2
  pub then_long : length then ≡ v + 3
  pub value : slice_index basis m ≡ v
  pub right : slice_index free n ≡ v + 1
  pub next_value : slice_index next (m + 1) ≡ v + 1
  pub off_right : slice_index off n ≡ v + 2
  pub same : (j : ℕ) → j < v + 1 → column_at then j ≡ column_at columns j
  pub rows : (i : ℕ) → i < m → row_in (n + 1 + 1) ms i ≡ row_in (n + 1 + 1) ns i
  pub last : row_in (n + 1 + 1) ms (m + 1) ≡ row_in (n + 1 + 1) ns m

module _ {basis free : List ℕ} {columns : List Column} {ns : List ℤ} {next off : List ℕ} {then : List Column} {ms : List ℤ} {m n v : ℕ} (add : IsAdded basis free columns ns next off then ms m n v) where
  at_value : column_at columns v ≡ Basic m
  at_value = ap (column_at columns) (sym add.value) ∙ (add.are.basic_at m (omega (arith, add.count))).1

  at_right : column_at columns (v + 1) ≡ Free n
  at_right = ap (column_at columns) (sym add.right) ∙ (add.are.free_at n (omega (arith, add.free_count))).1

  then_slack : column_at then v ≡ Basic m
  then_slack = add.same v (omega arith) ∙ at_value

  then_value : column_at then (v + 1) ≡ Basic (m + 1)
  then_value = ap (column_at then) (sym add.next_value) ∙ (add.after.basic_at (m + 1) (omega (arith, add.next_count))).1

  then_right : column_at then (v + 2) ≡ Free n
  then_right = ap (column_at then) (sym add.off_right) ∙ (add.after.free_at n (omega (arith, add.off_count))).1

  -- a condensed row by the columns before, and by those after
  abbrev old : ℕ → List ℤ → ℕ → ℤ
  old i xs j = number_at (n + 1) i xs (column_at columns j)

  abbrev new : ℕ → List ℤ → ℕ → ℤ
  new i xs j = number_at (n + 1) i xs (column_at then j)

  -- a row other than the new one, as i before and k after
  module _ (i k : ℕ) (xs : List ℤ) (below : (j : ℕ) → j < v → new k xs j ≡ old i xs j) (slack : k ≢ m) (value : new k xs (v + 1) ≡ old i xs v) where
    pub kept : (j : ℕ) → j < v + 3 → new k xs j ≡ extended v (old i xs) (pos 0) j
    kept =
        let ext = extends v (old i xs) (pos 0) in
        by_column v (old i xs) (pos 0) (λ j. new k xs j ≡ extended v (old i xs) (pos 0) j) (λ j h. below j h ∙ sym (ext.below j h)) (ap (number_at (n + 1) k xs) then_slack ∙ zero_number (n + 1) k xs m (λ e. slack (sym e)) ∙ sym ext.here) (value ∙ sym ext.value) (ap (number_at (n + 1) k xs) then_right ∙ sym (ap (number_at (n + 1) i xs) at_right) ∙ sym ext.right)

  pub row_kept : (i : ℕ) → i < m → (j : ℕ) → j < v + 3 → form_in then (n + 1) ms i j ≡ extended v (form_in columns (n + 1) ns i) (pos 0) j
  row_kept i h =
      let xs = row_in (n + 1 + 1) ns i in
      let value = ap (number_at (n + 1) i xs) then_value ∙ zero_number (n + 1) i xs (m + 1) (λ e. omega (arith, e, h)) ∙ sym (ap (number_at (n + 1) i xs) at_value ∙ zero_number (n + 1) i xs m (λ e. omega (arith, e, h))) in
      let made = kept i i xs (λ j q. ap (number_at (n + 1) i xs) (add.same j (omega arith))) (λ e. omega (arith, e, h)) value in
      λ j q. ap (λ ys. number_at (n + 1) i ys (column_at then j)) (add.rows i h) ∙ made j q

  -- at a column before the value's, the value's equation has its number off the basis, else none
  value_same : (j : ℕ) (xs : List ℤ) (stands : Column) → j < v → Holds basis free j stands → number_at (n + 1) (m + 1) xs stands ≡ number_at (n + 1) m xs stands
  value_same j xs (Basic r) h held =
      let a : r ≢ m + 1 = λ e. omega (arith, e, held.0, add.count) in
      let b : r ≢ m = λ e. (let s = ap (λ k. slice_index basis k) e in omega (arith, s, add.value, held.1, h)) in
      zero_number (n + 1) (m + 1) xs r a ∙ sym (zero_number (n + 1) m xs r b)
  value_same j xs (Free k) h held = refl

  pub value_kept : (j : ℕ) → j < v + 3 → form_in then (n + 1) ms (m + 1) j ≡ extended v (form_in columns (n + 1) ns m) (pos 0) j
  value_kept =
      let xs = row_in (n + 1 + 1) ns m in
      let value = ap (number_at (n + 1) (m + 1) xs) then_value ∙ own_number (n + 1) (m + 1) xs ∙ sym (ap (number_at (n + 1) m xs) at_value ∙ own_number (n + 1) m xs) in
      let below : (j : ℕ) → j < v → new (m + 1) xs j ≡ old m xs j = λ j q. ap (number_at (n + 1) (m + 1) xs) (add.same j (omega arith)) ∙ value_same j xs (column_at columns j) q (add.are.each j (omega (arith, q, add.long))) in
      let made = kept m (m + 1) xs below (λ e. omega (arith, e)) value in
      λ j q. ap (λ ys. number_at (n + 1) (m + 1) ys (column_at then j)) add.last ∙ made j q

  -- the new equation
  module _ (u : ℕ → ℤ) (cleared : (k : ℕ) → k < m + 1 → u (slice_index basis k) ≡ pos 0) (made : IsCondensed free (v + 2) u (numbers (row_in (n + 1 + 1) ms m))) where
    abbrev xs : List ℤ
    xs = row_in (n + 1 + 1) ms m

    one_below : (j : ℕ) (stands : Column) → j < v → Holds basis free j stands → number_at (n + 1) m xs stands *ℤ made.over ≡ u j
    one_below j (Basic r) h held =
        let b : r ≢ m = λ e. (let s = ap (λ k. slice_index basis k) e in omega (arith, s, add.value, held.1, h)) in
        let z = ap u (sym held.1) ∙ cleared r (omega (arith, held.0, add.count)) in
        rw (zero_number (n + 1) m xs r b, z) (omega (arith, ints))
    one_below j (Free k) h held = made.off k held.0 ∙ ap u held.1

    own_over : numbers xs (n + 1) *ℤ made.over ≡ u (v + 2)
    own_over = rw add.free_count at made.own

    pub row_made : IsQuotient (v + 3) (extended v u (u (v + 2))) (form_in then (n + 1) ms m)
    row_made =
        let ext = extends v u (u (v + 2)) in
        record {
          over = made.over;
          over_apart = made.over_apart;
          numbers = by_column v u (pos 0) (λ j. form_in then (n + 1) ms m j *ℤ made.over ≡ extended v u (u (v + 2)) j) (λ j h. rw (add.same j (omega arith), ext.below j h) (one_below j (column_at columns j) h (add.are.each j (omega (arith, h, add.long))))) (rw (then_slack, ext.here, own_number (n + 1) m xs) own_over) (rw (then_value, ext.value, zero_number (n + 1) m xs (m + 1) (λ e. omega (arith, e))) (let z = ap u (sym add.value) ∙ cleared m (omega arith) in omega (arith, ints, z))) (rw (then_right, ext.right) (made.off n (omega (arith, add.free_count)) ∙ ap u add.right));
        }

  pub row_own : (pos 0) <ℤ numbers (row_in (n + 1 + 1) ms m) (n + 1) → (pos 0) <ℤ form_in then (n + 1) ms m v
  row_own above = rw (then_slack, own_number (n + 1) m (row_in (n + 1 + 1) ms m)) above

  pub row_primitive : IsPrimitive (n + 1 + 1) (numbers (row_in (n + 1 + 1) ms m)) → IsPrimitive (v + 3) (form_in then (n + 1) ms m)
  row_primitive primitive =
      let xs = row_in (n + 1 + 1) ms m in
      let h : m < length next = omega (arith, add.next_count) in
      let long : length off + 1 ≡ n + 1 + 1 = omega (arith, add.off_count) in
      let reads = rw add.off_count at (full_reads add.after m xs h) in
      rw (← add.then_long) (primitive_out (partition_of add.after) m h (form_in then (n + 1) ms m) (numbers xs) reads (rw long primitive))
