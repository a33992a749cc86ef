-- What callers see of a tableau, by the lists that it keeps.
use Rattle.std.proofs.Common.{◌≡◌, ◌≢◌, ℕ, ◌+◌, ◌<◌, arith, refl, ap, subst, ⊎_elim, ℤ, pos, ◌<ℤ◌, List, length, slice_index}
use Rattle.std.proofs.lemmas.Bool.{cases_eq}
use Rattle.std.proofs.lemmas.Int.{ints}
use Rattle.zr_simplex.specs.declared.columns.Column.{Column}
use Rattle.zr_simplex.specs.declared.columns.Column.TheVariants.{Basic, Free}
use Rattle.zr_simplex.specs.Programs.{numbers}
use Rattle.zr_basis.specs.BasicForms.{IsPrimitive}
use Rattle.zr_simplex.specs.RowSteps.{IsPivot, IsSolved}
use Rattle.zr_simplex.specs.Tableaus.{AreColumns, Holds, column_at, form_in, number_at, row_in}
use Rattle.zr_simplex.proofs.Stands.{partition_of}
use Rattle.zr_simplex.proofs.Condensed.{full_own, full_reads, full_zero, primitive_in, zero_number}

module _ {basis free : List ℕ} {columns : List Column} (are : AreColumns basis free columns) (all : List ℤ) (solved : IsSolved (length basis) (length columns) (λ i. slice_index basis i) (form_in columns (length free) all)) where
  abbrev row : ℕ → List ℤ
  row i = row_in (length free + 1) all i

  pub above_in : (i : ℕ) → i < length basis → (pos 0) <ℤ numbers (row_in (length free + 1) all i) (length free)
  above_in i h = rw (full_own are i (row i) h) at (solved.own i h)

  pub primitive_each : (i : ℕ) → i < length basis → IsPrimitive (length free + 1) (numbers (row_in (length free + 1) all i))
  primitive_each i h = primitive_in (partition_of are) i h (form_in columns (length free) all i) (numbers (row i)) (full_reads are i (row i) h) (full_zero are i (row i)) (solved.primitive i h)

-- a pivot at an equation's own column changes nothing
pub own_pivot : (count width : ℕ) (basis : ℕ → ℕ) (form : ℕ → ℕ → ℤ) (r col : ℕ) → IsSolved count width basis form → r < count → basis r ≡ col → IsPivot count width basis form r col form
own_pivot count width basis form r col solved row is = record {
  pivoted = record { over = pos 1; over_apart = λ e. cc; numbers = λ j h. omega (arith, ints) };
  changed = λ i h a. record { by = pos 1; less = pos 0; over = pos 1; by_apart = λ e. cc; over_apart = λ e. cc; numbers = λ j q. omega (arith, ints) };
  cleared = λ i h a. rw (← is) (solved.other i r h row a);
  here = rw (← is) (solved.own r row);
  own = λ i h a. solved.own i h;
  primitive = solved.primitive;
}

-- a column of the basis at which an equation isn't zero is its own
module _ (r own : ℕ) (xs : List ℤ) where
  pub own_if : (stands : Column) → ((k : ℕ) → stands ≢ Free k) → number_at own r xs stands ≢ pos 0 → stands ≡ Basic r
  own_if (Basic i) other apart = ⊎_elim (λ (e : i ≡ r). ap Basic e) (λ (a : i ≢ r). absurd (apart (zero_number own r xs i a))) (cases_eq i r)
  own_if (Free k) other apart = absurd (other k refl)

pub is_own : (basis free : List ℕ) (columns : List Column) (are : AreColumns basis free columns) (r col : ℕ) (xs : List ℤ) → col < length columns → ((k : ℕ) → column_at columns col ≢ Free k) → number_at (length free) r xs (column_at columns col) ≢ pos 0 → slice_index basis r ≡ col
is_own basis free columns are r col xs below other apart =
    (subst (Holds basis free col) (own_if r (length free) xs (column_at columns col) other apart) (are.each col below)).1
