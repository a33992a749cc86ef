-- The equations of a program that the method keeps, and what is due at them.
use Rattle.std.specs.Prelude.{◌≡◌, ℕ, ◌+◌, ◌<◌, ℤ, List, length, slice_index}
use Rattle.zr_simplex.specs.declared.choose.Due.{Due}
use Rattle.zr_simplex.specs.declared.choose.Due.TheVariants.{Best, Empty, Unbounded, Pivot}
use Rattle.zr_basis.specs.Programs.{Program}
use Rattle.zr_basis.specs.BasicForms.{right_column, value_column, IsBasicForm}
use Rattle.zr_basis.specs.Orders.{Order}
use Rattle.zr_basis.specs.Primal.{IsPrimalDue}
use Rattle.zr_basis.specs.Dual.{IsDualDue}
use Rattle.zr_simplex.specs.Ends.{IsLeastAt, IsEmptyAt, IsEndlessAt}
use Rattle.zr_simplex.specs.Tableaus.{Equations, IsPartition, basis_of, form_of, free_of}

-- the equations are the basic form of the basis; off it stand as many columns as the program has,
-- and last that of the right sides
pub record IsTableau (p : Program) (t : Equations) : Type 0 where
  pub count : length t.basis ≡ p.rows + 1
  pub width : t.width ≡ p.columns + p.rows + 2
  pub partition : IsPartition t.width t.basis t.free
  pub free_count : length t.free ≡ p.columns + 1
  pub right : free_of t p.columns ≡ right_column p
  pub form : IsBasicForm p (basis_of t) (form_of t)

-- the list has a column before the value's for each row
abbrev pub IsStartBasis : Program → List ℕ → Type 0
IsStartBasis p start =
    (length start ≡ p.rows + 1) × ((i : ℕ) → i < p.rows → slice_index start i < value_column p)

-- what is due where a right side is below zero: no point meets the rows, or a pivot by the dual
-- rule, in this order
abbrev pub IsMendingDue : Program → Order → (ℕ → ℕ) → (ℕ → ℕ → ℤ) → Due → Type 0
IsMendingDue p order basis form (Empty row) = IsEmptyAt p form row
IsMendingDue p order basis form (Pivot row col) = IsDualDue p order basis form row col
IsMendingDue p order basis form _ = ⊥

-- what is due where none is: an answer, or a pivot by the primal rule, whose vectors are read by
-- the basis `start`
abbrev pub IsImprovingDue : Program → (ℕ → ℕ) → (ℕ → ℕ → ℤ) → Due → Type 0
IsImprovingDue p start form Best = IsLeastAt p form
IsImprovingDue p start form (Unbounded col) = IsEndlessAt p form col
IsImprovingDue p start form (Pivot row col) = IsPrimalDue p start form row col
IsImprovingDue p start form (Empty row) = ⊥

-- what is due ends the method
abbrev pub IsEnd : Program → (ℕ → ℕ → ℤ) → Due → Type 0
IsEnd p form Best = IsLeastAt p form
IsEnd p form (Empty row) = IsEmptyAt p form row
IsEnd p form (Unbounded col) = IsEndlessAt p form col
IsEnd p form (Pivot row col) = ⊥
