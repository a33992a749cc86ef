-- One entry of a row is added to the sums.
use Rattle.std.proofs.Common.{◌≡◌, ◌≢◌, ℕ, ◌+◌, ◌<◌, arith, sym, ℤ, pos, List, [], length, get_or, take, set, All, Ok, Err, add-one, get_or-set_same, get_or-set_other, ⊎_elim}
use Rattle.std.proofs.lemmas.Bool.{cases_eq}
use Rattle.zr_base.specs.declared.step.Wide.{Wide}
use Rattle.zr_base.specs.Steps.{IsNarrow}
use Rattle.zr_base.specs.Sums.{sum_step}
use Rattle.zr_base.specs.Terms.{Ascends, coef_at}
use Rattle.zr_base.proofs.SumSteps.{sum_step-zero}
use Rattle.zr_base.proofs.TermLaws.{entry_from, coef_at_before, coef_at_entry, coef_at_more_here, coef_at_more_else}

-- the sums with the first entries of a row
abbrev pub Added : List ℤ → List ℤ → List (ℕ × ℤ) → ℤ → Type 0
Added init left coef by =
    (j : ℕ) → j < length init → sum_step (get_or init j (pos 0)) (by, coef_at coef j) ≡ Ok (get_or left j (pos 0))

pub added_none : (init : List ℤ) (by : ℤ) → All IsNarrow init → Added init init [] by
added_none init by narrow j h = sum_step-zero (get_or init j (pos 0)) by (narrow j (pos 0) h)

module _ (init left : List ℤ) (coef : List (ℕ × ℤ)) (by : ℤ) (i : ℕ) (ascends : Ascends 0 (length init) coef) (narrow : All IsNarrow init) (below : i < length coef) (same : length left ≡ length init) (added : Added init left (take i coef) by) where
  pub in_range : (get_or coef i (0, pos 0)).0 < length left
  in_range = omega (arith, same, (entry_from 0 (length init) coef i (0, pos 0) ascends below).1)

  untouched : get_or left (get_or coef i (0, pos 0)).0 (pos 0) ≡ get_or init (get_or coef i (0, pos 0)).0 (pos 0)
  untouched =
      let k = (get_or coef i (0, pos 0)).0 in
      let inside : k < length init = (entry_from 0 (length init) coef i (0, pos 0) ascends below).1 in
      let e = added k inside in
      let z = sum_step-zero (get_or init k (pos 0)) by (narrow k (pos 0) inside) in
      let f = rw (coef_at_before 0 (length init) coef i (0, pos 0) ascends below) at e in
      cc

  pub narrow_here : IsNarrow (get_or left (get_or coef i (0, pos 0)).0 (pos 0))
  narrow_here = rw untouched (narrow (get_or coef i (0, pos 0)).0 (pos 0) (entry_from 0 (length init) coef i (0, pos 0) ascends below).1)

  pub wide_here : (w : Wide) → Err w ≡ sum_step (get_or left (get_or coef i (0, pos 0)).0 (pos 0)) (by, (get_or coef i (0, pos 0)).1) → (j : ℕ) × (j < length init) × (sum_step (get_or init j (pos 0)) (by, coef_at coef j) ≡ Err w)
  wide_here w e =
      let k = (get_or coef i (0, pos 0)).0 in
      (k, (entry_from 0 (length init) coef i (0, pos 0) ascends below).1, rw (coef_at_entry 0 (length init) coef i (0, pos 0) ascends below, ← untouched) (sym e))

  pub added_more : (v : ℤ) → Ok v ≡ sum_step (get_or left (get_or coef i (0, pos 0)).0 (pos 0)) (by, (get_or coef i (0, pos 0)).1) → Added init (set left (get_or coef i (0, pos 0)).0 v) (take (i + 1) coef) by
  added_more v e j h =
      let k = (get_or coef i (0, pos 0)).0 in
      ⊎_elim (λ (here : j ≡ k). rw (add-one, here, coef_at_more_here 0 (length init) coef i (0, pos 0) ascends below, ← untouched, get_or-set_same left k v (pos 0) in_range) (sym e)) (λ (apart : j ≢ k). rw (add-one, coef_at_more_else coef i j (0, pos 0) below apart, get_or-set_other left k j v (pos 0) apart) (added j h)) (cases_eq j k)
