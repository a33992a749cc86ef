-- The columns of bases of a program, the value's among them.
use Rattle.std.proofs.Common.{◌≡◌, ◌≢◌, ℕ, ◌<◌, ◌≤◌, arith, refl, sym, ap, subst, ◌∙◌, ℤ, pos, ◌<ℤ◌, ⊎_elim}
use Rattle.std.proofs.lemmas.Int.{ints}
use Rattle.zr_basis.specs.Programs.{Program}
use Rattle.zr_basis.specs.BasicForms.{value_column, IsBasicForm}
use Rattle.zr_basis.specs.Bases.{IsBasis, HasColumn, IsSameBasis}
use Rattle.zr_basis.specs.Stages.{Stage}
use Rattle.zr_basis.proofs.Signs.{side}

-- each column of the one basis is a column of the other
abbrev pub IsAmong : Program → (ℕ → ℕ) → (ℕ → ℕ) → Type 0
IsAmong p basis other = (i : ℕ) → i ≤ p.rows → (k : ℕ) × (k ≤ p.rows) × (basis i ≡ other k)

-- the bases have the same columns
abbrev pub HaveSameColumns : Program → (ℕ → ℕ) → (ℕ → ℕ) → Type 0
HaveSameColumns p basis other = IsAmong p basis other × IsAmong p other basis

-- the columns of a basic form's basis are different
pub basis_of_form : (p : Program) (basis : ℕ → ℕ) (form : ℕ → ℕ → ℤ) → IsBasicForm p basis form → IsBasis (value_column p) p.rows basis
basis_of_form p basis form is = record { below = is.columns; different = different }
  where
    different : (i k : ℕ) → i < p.rows → k < p.rows → i ≢ k → basis i ≢ basis k
    different i k h g c e =
        let own = is.own i (omega (arith, h)) in
        let other = is.other i k (omega (arith, h)) (omega (arith, g)) c in
        let own_there : (pos 0) <ℤ form i (basis k) = subst (λ j. (pos 0) <ℤ form i j) e own in
        omega (arith, ints, own_there, other)

among : (p : Program) (a b : ℕ → ℕ) → a p.rows ≡ value_column p → b p.rows ≡ value_column p → ((j : ℕ) → HasColumn p.rows a j → HasColumn p.rows b j) → IsAmong p a b
among p a b first second to i h =
    ⊎_elim (λ (q : i < p.rows). before q) (λ (q : p.rows ≤ i). at_value (omega arith)) (side i p.rows)
  where
    before : i < p.rows → (k : ℕ) × (k ≤ p.rows) × (a i ≡ b k)
    before q =
        let found = to (a i) (i, q, refl) in
        (found.0, omega (arith, found.1), sym found.2)

    at_value : i ≡ p.rows → (k : ℕ) × (k ≤ p.rows) × (a i ≡ b k)
    at_value e = (p.rows, omega arith, ap a e ∙ first ∙ sym second)

-- the value's column is in both
pub have_same : (p : Program) (a b : ℕ → ℕ) → a p.rows ≡ value_column p → b p.rows ≡ value_column p → IsSameBasis p.rows a b → HaveSameColumns p a b
have_same p a b first second same =
    (among p a b first second (λ j. (same j).0), among p b a second first (λ j. (same j).1))

pub same_columns : (p : Program) (one two : Stage p) → IsSameBasis p.rows one.basis two.basis → HaveSameColumns p one.basis two.basis
same_columns p one two same =
    have_same p one.basis two.basis one.basic.value two.basic.value same
