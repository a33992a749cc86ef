-- What a basis determines, and the two phases of the method.
use Rattle.std.specs.Prelude.{◌≡◌, ℕ, ◌<◌, ◌≤◌, ℤ, pos, ◌<ℤ◌, ◌≤ℤ◌}
use Rattle.zr_basis.specs.Programs.{Program}
use Rattle.zr_basis.specs.BasicForms.{right_column, value_column, CombinesEquations, IsBasicForm}

-- a combination of the program's equations that is zero at the columns of the basis is zero at each
-- column
abbrev pub Determines : Program → (ℕ → ℕ) → Type 0
Determines p basis =
    (e : ℕ → ℤ)
    → CombinesEquations p e
    → ((i : ℕ) → i ≤ p.rows → e (basis i) ≡ pos 0)
    → (j : ℕ)
    → j ≤ right_column p
    → e j ≡ pos 0

-- a basis and its form
pub record Stage (p : Program) : Type 0 where
  pub basis : ℕ → ℕ
  pub form : ℕ → ℕ → ℤ
  pub basic : IsBasicForm p basis form

-- a right side is below zero
abbrev pub IsShort : Program → (ℕ → ℕ → ℤ) → Type 0
IsShort p form = (i : ℕ) × (i < p.rows) × (form i (right_column p) <ℤ (pos 0))

-- the value falls along no column
abbrev pub IsDualFeasibleForm : Program → (ℕ → ℕ → ℤ) → Type 0
IsDualFeasibleForm p form = (j : ℕ) → j < value_column p → form p.rows j ≤ℤ (pos 0)

-- no right side is below zero
abbrev pub IsFeasibleForm : Program → (ℕ → ℕ → ℤ) → Type 0
IsFeasibleForm p form = (i : ℕ) → i < p.rows → (pos 0) ≤ℤ form i (right_column p)
