-- The equations that the method keeps, condensed: of each the numbers at the columns off the basis,
-- the right side among them, and then its number at its own column. At the other columns of the
-- basis it is zero.
use Rattle.std.specs.Prelude.{◌≡◌, ◌≢◌, ℕ, ◌+◌, ◌*◌, ◌<◌, ℤ, pos, ◌==◌, if◌then◌else◌, ◌⊎◌, List, take, drop, length, slice_index, slice_index_or}
use Rattle.zr_simplex.specs.declared.columns.Column.{Column}
use Rattle.zr_simplex.specs.declared.columns.Column.TheVariants.{Basic, Free}
use Rattle.zr_basis.specs.Orders.{Order}
use Rattle.zr_simplex.specs.Programs.{numbers}

-- a basis, the columns off it, where each column stands, how many there are, and the condensed
-- equations one after the other
pub record Equations : Type 0 where
  pub basis : List ℕ
  pub free : List ℕ
  pub columns : List Column
  pub width : ℕ
  pub numbers : List ℤ

-- each of the first columns is in the basis or off it, and stands there once
pub record IsPartition (width : ℕ) (basis free : List ℕ) : Type 0 where
  pub basic_below : (i : ℕ) → i < length basis → slice_index basis i < width
  pub free_below : (k : ℕ) → k < length free → slice_index free k < width
  pub each : (j : ℕ) → j < width → ((i : ℕ) × (i < length basis) × (slice_index basis i ≡ j))
      ⊎ ((k : ℕ) × (k < length free) × (slice_index free k ≡ j))
  pub apart : (i k : ℕ) → i < length basis → k < length free
      → slice_index basis i ≢ slice_index free k
  pub basic_once : (i k : ℕ) → i < length basis → k < length basis
      → slice_index basis i ≡ slice_index basis k → i ≡ k
  pub free_once : (i k : ℕ) → i < length free → k < length free
      → slice_index free i ≡ slice_index free k → i ≡ k

-- where column j stands
abbrev pub column_at : List Column → ℕ → Column
column_at columns j = slice_index_or columns j (Basic 0)

-- column j stands there
abbrev pub StandsAt : List Column → ℕ → Column → Type 0
StandsAt columns j place = (j < length columns) × (column_at columns j ≡ place)

-- what stands there is column j
abbrev pub Holds : List ℕ → List ℕ → ℕ → Column → Type 0
Holds basis free j (Basic i) = (i < length basis) × (slice_index basis i ≡ j)
Holds basis free j (Free k) = (k < length free) × (slice_index free k ≡ j)

-- the list says of each column where it stands
pub record AreColumns (basis free : List ℕ) (columns : List Column) : Type 0 where
  pub basic_at : (i : ℕ) → i < length basis → StandsAt columns (slice_index basis i) (Basic i)
  pub free_at : (k : ℕ) → k < length free → StandsAt columns (slice_index free k) (Free k)
  pub each : (j : ℕ) → j < length columns → Holds basis free j (column_at columns j)

-- row i of a list in which rows stand one after the other
abbrev pub row_in : ℕ → List ℤ → ℕ → List ℤ
row_in width xs i = take width (drop (i * width) xs)

-- the number of equation i at a column that stands there; its own number comes last, at this place
abbrev pub number_at : ℕ → ℕ → List ℤ → Column → ℤ
number_at own i xs (Basic row) = if row == i then numbers xs own else pos 0
number_at own i xs (Free place) = numbers xs place

-- the equations whose condensed rows stand one after the other
abbrev pub form_in : List Column → ℕ → List ℤ → ℕ → ℕ → ℤ
form_in columns own all i j = number_at own i (row_in (own + 1) all i) (column_at columns j)

-- the number of equation i at column j
unfoldable pub form_of : Equations → ℕ → ℕ → ℤ
form_of t = form_in t.columns (length t.free) t.numbers

-- the column of equation i
abbrev pub basis_of : Equations → ℕ → ℕ
basis_of t i = slice_index t.basis i

-- the column at this place off the basis
abbrev pub free_of : Equations → ℕ → ℕ
free_of t place = slice_index t.free place

-- the order in which columns are listed
abbrev pub order_of : List ℕ → Order
order_of columns = record { count = length columns; column = λ k. slice_index columns k }
