-- A multiple of one row is taken off a multiple of another, column by column.
use Rattle.std.proofs.Common.{◌≡◌, ◌≢◌, ℕ, ◌+◌, ◌<◌, ◌≤◌, arith, sym, ◌∙◌, ℤ, pos, unsigned_abs, List, length, set, Ok, ⊎_elim, get_or-set_same, get_or-set_other}
use Rattle.std.proofs.lemmas.Bool.{cases_eq}
use Rattle.std.specs.Int.{IsGcd}
use Rattle.zr_base.specs.Steps.{cross_of}
use Rattle.zr_simplex.specs.Programs.{numbers}
use Rattle.zr_simplex.specs.RowSteps.{IsGreatest}
use Rattle.zr_simplex.proofs.Divide.{greatest_more, greatest_same}

pub crossed_more : (row init pivot : List ℤ) (by less : ℤ) (i : ℕ) (v : ℤ) → i < length row → ((j : ℕ) → j < i → cross_of (by, numbers init j) (less, numbers pivot j) ≡ Ok (numbers row j)) → ((j : ℕ) → i ≤ j → numbers row j ≡ numbers init j) → cross_of (by, numbers row i) (less, numbers pivot i) ≡ Ok v → (j : ℕ) → j < i + 1 → cross_of (by, numbers init j) (less, numbers pivot j) ≡ Ok (numbers (set row i v) j)
crossed_more row init pivot by less i v below done left step j h = ⊎_elim (λ (e : j ≡ i). rw (e, get_or-set_same row i v (pos 0) below, ← left i (omega arith)) step) (λ (a : j ≢ i). rw (get_or-set_other row i j v (pos 0) a) (done j (omega arith))) (cases_eq j i)

pub later_more : (row init : List ℤ) (i : ℕ) (v : ℤ) → ((j : ℕ) → i ≤ j → numbers row j ≡ numbers init j) → (j : ℕ) → i + 1 ≤ j → numbers (set row i v) j ≡ numbers init j
later_more row init i v left j h =
    let a : j ≢ i = omega arith in
    get_or-set_other row i j v (pos 0) a ∙ left j (omega arith)

pub greatest_set : (row : List ℤ) (i a g : ℕ) (v : ℤ) → i < length row → IsGreatest i (numbers row) a → IsGcd a (unsigned_abs v) g → IsGreatest (i + 1) (numbers (set row i v)) g
greatest_set row i a g v below greatest gcd =
    let same : (j : ℕ) → j < i → numbers row j ≡ numbers (set row i v) j = λ j h. sym (get_or-set_other row i j v (pos 0) (λ e. omega (arith, e, h))) in
    greatest_more (numbers (set row i v)) i a g (greatest_same i (numbers row) (numbers (set row i v)) a same greatest) (rw (get_or-set_same row i v (pos 0) below) gcd)
