-- The listed coefficients of a row, and those of its front.
use Rattle.std.proofs.Common.{◌≡◌, ◌≢◌, ℕ, zero, suc, ◌+◌, ◌<◌, ◌≤◌, arith, refl, ℤ, pos, List, [], ◌∷◌, length, get_or, take}
use Rattle.std.proofs.lemmas.Bool.Decides.{nat_tests}
use Rattle.zr_base.specs.Steps.{IsNarrow}
use Rattle.zr_base.specs.Terms.{Ascends, coef_at}

pub entry_from : (low columns : ℕ) (ts : List (ℕ × ℤ)) (i : ℕ) (d : ℕ × ℤ) → Ascends low columns ts → i < length ts → (low ≤ (get_or ts i d).0) × ((get_or ts i d).0 < columns) × IsNarrow (get_or ts i d).1
entry_from low columns [] i d a h = absurd (omega arith)
entry_from low columns (t ∷ ts) zero d a h = (a.0, a.1, a.2)
entry_from low columns (t ∷ ts) (suc i) d a h =
    let r = entry_from (t.0 + 1) columns ts i d a.3 (omega arith) in
    (omega (arith, r.0, a.0), r.1, r.2)

-- the column of an entry isn't listed before it
pub coef_at_before : (low columns : ℕ) (ts : List (ℕ × ℤ)) (i : ℕ) (d : ℕ × ℤ) → Ascends low columns ts → i < length ts → coef_at (take i ts) (get_or ts i d).0 ≡ pos 0
coef_at_before low columns [] i d a h = absurd (omega arith)
coef_at_before low columns (t ∷ ts) zero d a h = refl
coef_at_before low columns (t ∷ ts) (suc i) d a h =
    let r = coef_at_before (t.0 + 1) columns ts i d a.3 (omega arith) in
    let past = (entry_from (t.0 + 1) columns ts i d a.3 (omega arith)).0 in
    grind (arith, nat_tests, r, past)

pub coef_at_entry : (low columns : ℕ) (ts : List (ℕ × ℤ)) (i : ℕ) (d : ℕ × ℤ) → Ascends low columns ts → i < length ts → coef_at ts (get_or ts i d).0 ≡ (get_or ts i d).1
coef_at_entry low columns [] i d a h = absurd (omega arith)
coef_at_entry low columns (t ∷ ts) zero d a h = grind (arith, nat_tests)
coef_at_entry low columns (t ∷ ts) (suc i) d a h =
    let r = coef_at_entry (t.0 + 1) columns ts i d a.3 (omega arith) in
    let past = (entry_from (t.0 + 1) columns ts i d a.3 (omega arith)).0 in
    grind (arith, nat_tests, r, past)

pub coef_at_more_here : (low columns : ℕ) (ts : List (ℕ × ℤ)) (i : ℕ) (d : ℕ × ℤ) → Ascends low columns ts → i < length ts → coef_at (take (suc i) ts) (get_or ts i d).0 ≡ (get_or ts i d).1
coef_at_more_here low columns [] i d a h = absurd (omega arith)
coef_at_more_here low columns (t ∷ ts) zero d a h = grind (arith, nat_tests)
coef_at_more_here low columns (t ∷ ts) (suc i) d a h =
    let r = coef_at_more_here (t.0 + 1) columns ts i d a.3 (omega arith) in
    let past = (entry_from (t.0 + 1) columns ts i d a.3 (omega arith)).0 in
    grind (arith, nat_tests, r, past)

pub coef_at_more_else : (ts : List (ℕ × ℤ)) (i j : ℕ) (d : ℕ × ℤ) → i < length ts → j ≢ (get_or ts i d).0 → coef_at (take (suc i) ts) j ≡ coef_at (take i ts) j
coef_at_more_else [] i j d h n = absurd (omega arith)
coef_at_more_else (t ∷ ts) zero j d h n = grind (arith, nat_tests)
coef_at_more_else (t ∷ ts) (suc i) j d h n =
    let r = coef_at_more_else ts i j d (omega arith) n in
    grind (arith, nat_tests, r)
