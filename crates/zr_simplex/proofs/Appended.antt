-- A tableau with a row appended is the tableau of the program with that row.
use Rattle.std.proofs.Common.{◌≡◌, ℕ, suc, ◌+◌, ◌<◌, ◌≤◌, arith, ap, subst, ◌∙◌, ⊎_elim, ℤ, pos, [], ◌∷◌, ◌++◌, length, slice_index, length-append, length-set, get_or-set_same}
use Rattle.std.proofs.lemmas.Int.{ints}
use Rattle.std.proofs.lemmas.List.{get_or_append_left, get_or_push}
use Rattle.zr_basis.specs.Programs.{Program}
use Rattle.zr_basis.specs.BasicForms.{CombinesEquations}
use Rattle.zr_basis.specs.Stages.{IsDualFeasibleForm}
use Rattle.zr_basis.proofs.Signs.{side}
use Rattle.zr_simplex.specs.Dues.{IsTableau}
use Rattle.zr_simplex.specs.RowSteps.{IsQuotient}
use Rattle.zr_simplex.specs.Tableaus.{Equations, basis_of, form_of}
use Rattle.zr_simplex.specs.Appends.{IsExpressed, IsWithRow, extended, first_rows}
use Rattle.zr_simplex.proofs.Divide.{zero_if}
use Rattle.zr_simplex.proofs.Enlarged.{Extends, enlarged, extends}
use Rattle.zr_simplex.proofs.Pivots.{mixture_combination, quotient_mixture}

module _ (q : Program) (m : ℕ) (more : q.rows ≡ suc m) (old new : Equations) (u : ℕ → ℤ) (kept : IsTableau (first_rows q m) old) (expressed : IsExpressed q m m (basis_of old) (form_of old) u) (made : IsWithRow m q.columns (q.columns + m) old new u) where
  abbrev whole : ℕ → ℤ
  whole = extended (q.columns + m) u (u (q.columns + m + 2))

  basis_same : (i : ℕ) → i ≤ m → basis_of new i ≡ basis_of old i
  basis_same i h =
      ap (λ b. slice_index b i) made.basis ∙ get_or_append_left old.basis ((q.columns + m + 1) ∷ []) 0 i (omega (arith, h, kept.count))

  basis_last : basis_of new (suc m) ≡ q.columns + m + 1
  basis_last =
      ap (λ b. slice_index b (suc m)) made.basis ∙ get_or_push old.basis (q.columns + m + 1) 0 (suc m) (omega (arith, kept.count))

  row_extends : (i k : ℕ) → ((j : ℕ) → j < q.columns + m + 3 → form_of new k j ≡ extended (q.columns + m) (form_of old i) (pos 0) j) → Extends (q.columns + m) (form_of old i) (pos 0) (form_of new k)
  row_extends i k same =
      let ext = extends (q.columns + m) (form_of old i) (pos 0) in
      record {
        below = λ j h. same j (omega (arith, h)) ∙ ext.below j h;
        here = same (q.columns + m) (omega arith) ∙ ext.here;
        value = same (q.columns + m + 1) (omega arith) ∙ ext.value;
        right = same (q.columns + m + 2) (omega arith) ∙ ext.right;
      }

  rows_extend : (i : ℕ) → i < m → Extends (q.columns + m) (form_of old i) (pos 0) (form_of new i)
  rows_extend i h = row_extends i i (made.rows i h)

  last_extends : Extends (q.columns + m) (form_of old m) (pos 0) (form_of new (suc m))
  last_extends = let e : m + 1 ≡ suc m = omega arith in row_extends m (suc m) (rw e at made.last)

  quotient : IsQuotient (q.columns + q.rows + 2) whole (form_of new m)
  quotient =
      let e : q.columns + m + 3 ≡ q.columns + q.rows + 2 = omega (arith, more) in
      subst (λ w. IsQuotient w (extended (q.columns + m) u (u (q.columns + m + 2))) (form_of new m)) e made.made

  combination : CombinesEquations q (form_of new m)
  combination =
      mixture_combination q whole whole (form_of new m) (quotient_mixture (q.columns + q.rows + 2) whole (form_of new m) quotient) expressed.combination expressed.combination

  zero_at : (j : ℕ) → j < q.columns + m + 3 → whole j ≡ pos 0 → form_of new m j ≡ pos 0
  zero_at j h e =
      zero_if (form_of new m j) made.made.over made.made.over_apart (made.made.numbers j h ∙ e)

  cleared : (k : ℕ) → k < m → form_of new m (basis_of old k) ≡ pos 0
  cleared k h =
      let below = kept.form.columns k h in
      zero_at (basis_of old k) (omega (arith, below)) ((extends (q.columns + m) u (u (q.columns + m + 2))).below (basis_of old k) below ∙ expressed.cleared k h)

  no_value : form_of new m (q.columns + m + 1) ≡ pos 0
  no_value =
      zero_at (q.columns + m + 1) (omega arith) ((extends (q.columns + m) u (u (q.columns + m + 2))).value ∙ expressed.value)

  pub appended : IsTableau q new
  appended = record {
    count = ap length made.basis ∙ length-append old.basis ((q.columns + m + 1) ∷ []) ∙ omega (arith, kept.count, more);
    width = made.width ∙ omega (arith, more);
    partition = made.partition;
    free_count = ap length made.free ∙ length-set old.free q.columns (q.columns + m + 2) ∙ kept.free_count;
    right = ap (λ f. slice_index f q.columns) made.free ∙ get_or-set_same old.free q.columns (q.columns + m + 2) 0 (omega (arith, kept.free_count)) ∙ omega (arith, more);
    form = enlarged q m more (basis_of old) (basis_of new) (form_of old) (form_of new) kept.form basis_same basis_last rows_extend last_extends combination made.own cleared no_value made.primitive;
  }

  -- where the value fell along no column, it falls along none now
  pub appended_dual : IsDualFeasibleForm (first_rows q m) (form_of old) → IsDualFeasibleForm q (form_of new)
  appended_dual feasible j h =
      rw more (⊎_elim (λ (b : j < q.columns + m). rw (last_extends.below j b) (feasible j b)) (λ (b : q.columns + m ≤ j). let e : j ≡ q.columns + m = omega (arith, b, h, more) in rw (e, last_extends.here) (omega (arith, ints))) (side j (q.columns + m)))

  pub appended_basis : new.basis ≡ old.basis ++ (q.columns + q.rows) ∷ []
  appended_basis = let e : q.columns + m + 1 ≡ q.columns + q.rows = omega (arith, more) in made.basis ∙ ap (λ z. old.basis ++ z ∷ []) e
