-- Orders of columns, in which vectors are read and compared.
use Rattle.std.specs.Prelude.{◌≡◌, ℕ, ◌+◌, ◌<◌, ◌≤◌, ◌==◌, if◌then◌else◌, ℤ}
use Rattle.zr_basis.specs.Programs.{Program, aim_at}
use Rattle.zr_basis.specs.BasicForms.{value_column, IsFree}

-- the columns `column 0`, .., `column (count - 1)`, in this order
pub record Order : Type 0 where
  pub count : ℕ
  pub column : ℕ → ℕ

-- each column before the value's comes in the order, and none after the value's
pub record IsOrder (p : Program) (order : Order) : Type 0 where
  pub inside : (k : ℕ) → k < order.count → order.column k ≤ value_column p
  pub each : (j : ℕ) → j < value_column p → (k : ℕ) × (k < order.count) × (order.column k ≡ j)

-- the columns before the value's, in their order
pub record IsColumnOrder (p : Program) (order : Order) : Type 0 where
  pub count : order.count ≡ value_column p
  pub columns : (k : ℕ) → k < value_column p → order.column k ≡ k

-- the value's column first, then those off the basis, each once, and then those on it
pub record IsValueOrder (p : Program) (basis : ℕ → ℕ) (order : Order) : Type 0 where
  pub ordered : IsOrder p order
  pub count : order.count ≡ value_column p + 1
  pub value : order.column 0 ≡ value_column p
  pub off : (k : ℕ) → k < p.columns → IsFree p basis (order.column (k + 1))
  pub once : (j k : ℕ) → j < p.columns → k < p.columns → order.column (j + 1) ≡ order.column (k + 1)
      → j ≡ k
  pub on : (i : ℕ) → i < p.rows → order.column (p.columns + 1 + i) ≡ basis i

-- what x has at column j; at the value's, the aim's value at x
abbrev pub entry_at : Program → (ℕ → ℤ) → ℕ → ℤ
entry_at p x j = if j == value_column p then aim_at p x else x j

-- x, read in the order
abbrev pub in_order : Program → Order → (ℕ → ℤ) → ℕ → ℤ
in_order p order x k = entry_at p x (order.column k)
