-- The lexicographic rule of the primal method. Vectors are read from an equation in this order: the
-- right side, then the columns of the basis `start`.
use Rattle.std.specs.Prelude.{ℕ, zero, suc, ◌+◌, ◌<◌, ℤ, pos, ◌<ℤ◌}
use Rattle.zr_basis.specs.Programs.{Program}
use Rattle.zr_basis.specs.BasicForms.{value_column, right_column}
use Rattle.zr_basis.specs.Vectors.{IsLeading, IsLower}

-- the column that comes at this place of a vector
abbrev pub place : Program → (ℕ → ℕ) → ℕ → ℕ
place p start zero = right_column p
place p start (suc i) = start i

-- the equation's vector
abbrev pub vector : Program → (ℕ → ℕ) → (ℕ → ℤ) → ℕ → ℤ
vector p start e k = e (place p start k)

-- the vector of each row is lexicographically positive
abbrev pub AreVectorsPositive : Program → (ℕ → ℕ) → (ℕ → ℕ → ℤ) → Type 0
AreVectorsPositive p start form =
    (i : ℕ) → i < p.rows → IsLeading (p.rows + 1) (vector p start (form i))

-- the vector of row i is lexicographically below that of row k, each over its number at the column
abbrev pub IsRowBelow : Program → (ℕ → ℕ) → (ℕ → ℕ → ℤ) → ℕ → ℕ → ℕ → Type 0
IsRowBelow p start form col i k =
    IsLower (p.rows + 1) (vector p start (form i)) (form i col) (vector p start (form k))
    (form k col)

-- the value falls along the column; of the rows that are above zero there, none has a lower
-- quotient of vector by number than this one
pub record IsPrimalDue (p : Program) (start : ℕ → ℕ) (form : ℕ → ℕ → ℤ) (row col : ℕ) : Type 0 where
  pub below : row < p.rows
  pub column : col < value_column p
  pub falls : (pos 0) <ℤ form p.rows col
  pub above : (pos 0) <ℤ form row col
  pub least : (i : ℕ) → i < p.rows → (pos 0) <ℤ form i col → IsRowBelow p start form col i row → ⊥

-- the vector of the value, over the value's own number, is lexicographically lower in `made` than
-- in `form`
abbrev pub Drops : Program → (ℕ → ℕ) → (ℕ → ℕ → ℤ) → (ℕ → ℕ → ℤ) → Type 0
Drops p start form made =
    IsLower (p.rows + 1) (vector p start (made p.rows)) (made p.rows (value_column p))
    (vector p start (form p.rows)) (form p.rows (value_column p))
