-- Places are filled with an equation's numbers.
use Rattle.std.proofs.Common.{◌≡◌, ◌≢◌, ℕ, ◌+◌, ◌<◌, ◌≤◌, arith, ◌∙◌, ℤ, pos, List, length, get_or, take, set, add-one, ⊎_elim, get_or-set_same, get_or-set_other, length-set}
use Rattle.std.proofs.lemmas.Bool.{cases_eq}
use Rattle.zr_base.specs.Steps.{IsNarrow}
use Rattle.zr_base.specs.Terms.{Ascends, coef_at}
use Rattle.zr_base.proofs.TermLaws.{entry_from, coef_at_more_here, coef_at_more_else}
use Rattle.zr_simplex.specs.Programs.{numbers}
use Rattle.zr_simplex.specs.RowSteps.{IsFirstEquation}

module _ (places : List ℤ) (coef : List (ℕ × ℤ)) (columns i : ℕ) (ascends : Ascends 0 columns coef) (below : i < length coef) (room : columns ≤ length places) where
  pub entry_inside : (get_or coef i (0, pos 0)).0 < length places
  entry_inside = omega (arith, room, (entry_from 0 columns coef i (0, pos 0) ascends below).1)

  pub entry_narrow : IsNarrow (get_or coef i (0, pos 0)).1
  entry_narrow = (entry_from 0 columns coef i (0, pos 0) ascends below).2

  pub written_more : ((j : ℕ) → numbers places j ≡ coef_at (take i coef) j) → (j : ℕ) → numbers (set places (get_or coef i (0, pos 0)).0 (get_or coef i (0, pos 0)).1) j ≡ coef_at (take (i + 1) coef) j
  written_more before j =
      let k = (get_or coef i (0, pos 0)).0 in
      let v = (get_or coef i (0, pos 0)).1 in
      ⊎_elim (λ (here : j ≡ k). rw (add-one, here, coef_at_more_here 0 columns coef i (0, pos 0) ascends below) (get_or-set_same places k v (pos 0) entry_inside)) (λ (apart : j ≢ k). rw (add-one, coef_at_more_else coef i j (0, pos 0) below apart) (get_or-set_other places k j v (pos 0) apart ∙ before j)) (cases_eq j k)

-- a row's equation over the columns of the program without it
pub started : (places : List ℤ) (columns width : ℕ) (coef : ℕ → ℤ) (le : ℤ) → length places ≡ width + 3 → columns ≤ width → ((j : ℕ) → j < columns → numbers places j ≡ coef j) → ((j : ℕ) → columns ≤ j → numbers places j ≡ pos 0) → IsFirstEquation columns width (width + 2) coef le (numbers (set (set places (width + 1) le) (width + 2) (pos 1)))
started places columns width coef le len low coefs zeros =
    let right = set places (width + 1) le in
    let long = length-set places (width + 1) le in
    let before : (j : ℕ) → j ≢ width + 2 → numbers (set right (width + 2) (pos 1)) j ≡ numbers right j = λ j a. get_or-set_other right (width + 2) j (pos 1) (pos 0) a in
    let other : (j : ℕ) → j ≢ width + 1 → numbers right j ≡ numbers places j = λ j a. get_or-set_other places (width + 1) j le (pos 0) a in
    record {
      coefs = λ j h. before j (λ e. omega (arith, e, h)) ∙ other j (λ e. omega (arith, e, h)) ∙ coefs j h;
      one = get_or-set_same right (width + 2) (pos 1) (pos 0) (omega (arith, len, long));
      right = before (width + 1) (λ e. omega (arith, e)) ∙ get_or-set_same places (width + 1) le (pos 0) (omega (arith, len));
      zeros = λ j h q a. before j a ∙ other j (λ e. omega (arith, e, q)) ∙ zeros j h;
    }
