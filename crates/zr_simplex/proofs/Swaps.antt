-- The numbers of an equation, as one column comes in at a place and another one takes its own.
use Rattle.std.proofs.Common.{◌≡◌, ◌≢◌, ℕ, ◌+◌, ◌<◌, arith, sym, ap, ◌∙◌, ⊎_elim, ℤ, pos, unsigned_abs, List, length, set, length-set, get_or-set_same, get_or-set_other}
use Rattle.std.proofs.lemmas.Bool.{cases_eq}
use Rattle.std.proofs.lemmas.List.{set-get_or}
use Rattle.std.specs.Int.{◌∣◌}
use Rattle.zr_simplex.specs.Programs.{numbers}
use Rattle.zr_basis.specs.BasicForms.{IsPrimitive}
use Rattle.zr_simplex.specs.RowSteps.{entered, left, swapped}

pub entered_same : (place : ℕ) (xs : List ℤ) → numbers xs place ≡ pos 0 → entered place xs ≡ xs
entered_same place xs zero = ap (λ z. set xs place z) (sym zero) ∙ set-get_or xs place (pos 0)

pub entered_here : (place : ℕ) (xs : List ℤ) → place < length xs → numbers (entered place xs) place ≡ pos 0
entered_here place xs h = get_or-set_same xs place (pos 0) (pos 0) h

pub entered_else : (place : ℕ) (xs : List ℤ) (j : ℕ) → j ≢ place → numbers (entered place xs) j ≡ numbers xs j
entered_else place xs j apart = get_or-set_other xs place j (pos 0) (pos 0) apart

module _ (place own : ℕ) (xs : List ℤ) (inside : place < own) (long : own < length xs) where
  moved : List ℤ
  moved = set xs place (numbers xs own)

  pub left-length : length (left place own xs) ≡ length xs
  left-length =
      length-set (set xs place (numbers xs own)) own (pos 0) ∙ length-set xs place (numbers xs own)

  pub left_own : numbers (left place own xs) own ≡ pos 0
  left_own =
      get_or-set_same (set xs place (numbers xs own)) own (pos 0) (pos 0) (rw (length-set xs place (numbers xs own)) long)

  pub left_place : numbers (left place own xs) place ≡ numbers xs own
  left_place =
      get_or-set_other (set xs place (numbers xs own)) own place (pos 0) (pos 0) (λ e. omega (arith, e, inside)) ∙ get_or-set_same xs place (numbers xs own) (pos 0) (omega (arith, inside, long))

  pub left_else : (k : ℕ) → k ≢ place → k ≢ own → numbers (left place own xs) k ≡ numbers xs k
  left_else k a b =
      get_or-set_other (set xs place (numbers xs own)) own k (pos 0) (pos 0) b ∙ get_or-set_other xs place k (numbers xs own) (pos 0) a

  pub swapped_own : numbers (swapped place own xs) own ≡ numbers xs place
  swapped_own =
      get_or-set_same (left place own xs) own (numbers xs place) (pos 0) (rw left-length long)

  pub swapped_off : (k : ℕ) → k ≢ own → numbers (swapped place own xs) k ≡ numbers (left place own xs) k
  swapped_off k a = get_or-set_other (left place own xs) own k (numbers xs place) (pos 0) a

  pub swapped_primitive : IsPrimitive (own + 1) (numbers xs) → IsPrimitive (own + 1) (numbers (swapped place own xs))
  swapped_primitive primitive d all = primitive d each
    where
      each : (k : ℕ) → k < own + 1 → d ∣ unsigned_abs (numbers xs k)
      each k h = ⊎_elim (λ (e : k ≡ own). rw (e, ← left_place, ← swapped_off place (λ s. omega (arith, s, inside))) (all place (omega (arith, inside)))) (λ (a : k ≢ own). ⊎_elim (λ (e : k ≡ place). rw (e, ← swapped_own) (all own (omega arith))) (λ (b : k ≢ place). rw (← left_else k b a, ← swapped_off k a) (all k h)) (cases_eq k place)) (cases_eq k own)
