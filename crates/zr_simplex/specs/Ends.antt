-- What ends the method at a basis.
use Rattle.std.specs.Prelude.{ℕ, ◌<◌, ℤ, pos, ◌<ℤ◌, ◌≤ℤ◌}
use Rattle.zr_basis.specs.Programs.{Program}
use Rattle.zr_basis.specs.BasicForms.{right_column, value_column}
use Rattle.zr_basis.specs.Stages.{IsFeasibleForm, IsDualFeasibleForm}

-- no right side is below zero, and the value falls along no column
abbrev pub IsLeastAt : Program → (ℕ → ℕ → ℤ) → Type 0
IsLeastAt p form = IsFeasibleForm p form × IsDualFeasibleForm p form

-- the row's right side is below zero, and none of its numbers is
abbrev pub IsEmptyAt : Program → (ℕ → ℕ → ℤ) → ℕ → Type 0
IsEmptyAt p form row =
    (row < p.rows) × (form row (right_column p) <ℤ (pos 0))
    × ((j : ℕ) → j < value_column p → (pos 0) ≤ℤ form row j)

-- no right side is below zero, the value falls along the column, and no row is above zero there
abbrev pub IsEndlessAt : Program → (ℕ → ℕ → ℤ) → ℕ → Type 0
IsEndlessAt p form col =
    (col < value_column p) × IsFeasibleForm p form × ((pos 0) <ℤ form p.rows col)
    × ((i : ℕ) → i < p.rows → form i col ≤ℤ (pos 0))
