-- The rows of the program are in form.
use Rattle.std.proofs.Common.{◌≡◌, ℕ, suc, ◌+◌, arith, refl, Bool, false, List, [], ◌∷◌, All}
use Rattle.std.proofs.lemmas.Int.{ints}
use Rattle.zr_lin.specs.Ineqs.{IneqOf, IsIneq}
use Rattle.zr_choices.specs.Parted.{at_most_1, parted, parted_rows, place}
use Rattle.zr_choices.proofs.Ascending.{parted_ineq}
use Rattle.zr_system.proofs.Existence.{all_cons, all_nil}

module _ (free : ℕ → Bool) (n : ℕ) where
  pub rows_form : (rows : List IneqOf) → All (IsIneq n) rows
      → All (IsIneq (place free n + 1)) (parted_rows free n rows)
  rows_form [] a =
      all_cons (IsIneq (place free n + 1)) (at_most_1 (place free n)) []
      ((omega arith, omega arith, omega (arith, ints), tt), omega (arith, ints))
      (all_nil (IsIneq (place free n + 1)))
  rows_form (row ∷ rows) a =
      all_cons (IsIneq (place free n + 1)) (parted free n row) (parted_rows free n rows)
      (parted_ineq free n row (a 0 row (omega arith)))
      (rows_form rows (λ k d h. a (suc k) d (omega arith)))

  pub rows_weak : (rows : List IneqOf) → All (λ row. row.strict ≡ false) (parted_rows free n rows)
  rows_weak [] =
      all_cons (λ (row : IneqOf). row.strict ≡ false) (at_most_1 (place free n)) [] refl
      (all_nil (λ (row : IneqOf). row.strict ≡ false))
  rows_weak (row ∷ rows) =
      all_cons (λ (row : IneqOf). row.strict ≡ false) (parted free n row)
      (parted_rows free n rows) refl (rows_weak rows)
