-- A multiple of a row is added to the sums.
use Rattle.std.proofs.Common.{◌≡◌, ◌≢◌, ℕ, ◌+◌, ◌<◌, ◌==◌, arith, refl, sym, subst, ℤ, pos, Bool, true, false, List, [], length, get_or, take, set, All, Result, Ok, Err, IsErr, add-one, get_or-set_same, get_or-set_other, ⊎_elim}
use Rattle.std.proofs.lemmas.Bool.{cases_eq}
use Rattle.std.proofs.lemmas.Bool.Decides.{nat_tests}
use Rattle.zr_base.specs.declared.step.Wide.{Wide}
use Rattle.zr_base.specs.Steps.{IsNarrow}
use Rattle.zr_base.specs.Sums.{sum_step}
use Rattle.zr_base.specs.Terms.{Ascends, Terms, coef_at}
use Rattle.zr_base.proofs.SumSteps.{sum_step-zero}
use Rattle.zr_base.proofs.TermLaws.{entry_from, coef_at_before, coef_at_entry, coef_at_more_here, coef_at_more_else}
use Rattle.zr_game.specs.Forms.{AreTerms}
use Rattle.zr_game.specs.Leaves.{at_column}
use Rattle.zr_game.proofs.TermColumns.{ascends}
use Rattle.zr_tree.specs.SlotRows.{signed}
use Rattle.zr_tree.specs.Combining.{AreAdded, HasWideColumn}

-- the numbers of the first terms, with their sign
abbrev pub numbers : Bool → Terms → ℕ → ℤ
numbers negated terms = λ j. signed negated (coef_at terms j)

signed_zero : (b : Bool) → signed b (pos 0) ≡ pos 0
signed_zero true = refl
signed_zero false = refl

pub added_none : (init : List ℤ) (negated : Bool) (by : ℤ) → All IsNarrow init → AreAdded init (numbers negated []) by init
added_none init negated by narrow j h =
    rw (signed_zero negated) (sum_step-zero (get_or init j (pos 0)) by (narrow j (pos 0) h))

module _ (init left : List ℤ) (terms : Terms) (negated : Bool) (by : ℤ) (i : ℕ) (form : AreTerms (length init) terms) (narrow : All IsNarrow init) (below : i < length terms) (same : length left ≡ length init) (added : AreAdded init (numbers negated (take i terms)) by left) where
  abbrev column : ℕ
  column = (get_or terms i (0, pos 0)).0

  abbrev number : ℤ
  number = signed negated (get_or terms i (0, pos 0)).1

  order : Ascends 0 (length init) terms
  order = ascends terms 0 (length init) form

  inside : column < length init
  inside = (entry_from 0 (length init) terms i (0, pos 0) order below).1

  pub in_range : column < length left
  in_range = omega (arith, same, inside)

  untouched : get_or left column (pos 0) ≡ get_or init column (pos 0)
  untouched =
      let e = added column inside in
      let z = sum_step-zero (get_or init column (pos 0)) by (narrow column (pos 0) inside) in
      let f = rw (coef_at_before 0 (length init) terms i (0, pos 0) order below, signed_zero negated) at e in
      cc

  pub narrow_here : IsNarrow (get_or left column (pos 0))
  narrow_here = rw untouched (narrow column (pos 0) inside)

  pub wide_here : (w : Wide) → sum_step (get_or left column (pos 0)) (by, number) ≡ Err w → HasWideColumn init (numbers negated terms) by
  wide_here w e =
      let f : sum_step (get_or init column (pos 0)) (by, signed negated (coef_at terms column)) ≡ Err w = rw (coef_at_entry 0 (length init) terms i (0, pos 0) order below, ← untouched) e in
      (column, inside, subst (λ (r : Result ℤ Wide). IsErr r) (sym f) refl)

  pub added_more : (v : ℤ) → sum_step (get_or left column (pos 0)) (by, number) ≡ Ok v → AreAdded init (numbers negated (take (i + 1) terms)) by (set left column v)
  added_more v e j h =
      ⊎_elim (λ (here : j ≡ column). rw (add-one, here, coef_at_more_here 0 (length init) terms i (0, pos 0) order below, ← untouched, get_or-set_same left column v (pos 0) in_range) e) (λ (apart : j ≢ column). rw (add-one, coef_at_more_else terms i j (0, pos 0) below apart, get_or-set_other left column j v (pos 0) apart) (added j h)) (cases_eq j column)

module _ (sums : List ℤ) (column : ℕ) (number by : ℤ) (below : column < length sums) where
  here_is : at_column column number column ≡ number
  here_is = grind (arith, nat_tests)

  pub wide_column : (w : Wide) → sum_step (get_or sums column (pos 0)) (by, number) ≡ Err w → HasWideColumn sums (at_column column number) by
  wide_column w e =
      let f : sum_step (get_or sums column (pos 0)) (by, at_column column number column) ≡ Err w = rw here_is e in
      (column, below, subst (λ (r : Result ℤ Wide). IsErr r) (sym f) refl)

  pub column_added : All IsNarrow sums → (v : ℤ) → sum_step (get_or sums column (pos 0)) (by, number) ≡ Ok v → AreAdded sums (at_column column number) by (set sums column v)
  column_added narrow v e j h =
      ⊎_elim (λ (here : column ≡ j). at_it here) (λ (apart : column ≢ j). elsewhere apart) (cases_eq column j)
    where
      at_it : column ≡ j → sum_step (get_or sums j (pos 0)) (by, at_column column number j) ≡ Ok (get_or (set sums column v) j (pos 0))
      at_it here = rw (← here, here_is, get_or-set_same sums column v (pos 0) below) e

      elsewhere : column ≢ j → sum_step (get_or sums j (pos 0)) (by, at_column column number j) ≡ Ok (get_or (set sums column v) j (pos 0))
      elsewhere apart =
          let t : (column == j) ≡ false = grind (arith, nat_tests) in
          rw (t, get_or-set_other sums column j v (pos 0) (λ s. apart (sym s))) (sum_step-zero (get_or sums j (pos 0)) by (narrow j (pos 0) h))

-- a slot that isn't present adds nothing
pub nothing_added : (sums : List ℤ) (by : ℤ) → All IsNarrow sums → AreAdded sums (λ j. pos 0) by sums
nothing_added sums by narrow j h = sum_step-zero (get_or sums j (pos 0)) by (narrow j (pos 0) h)
