-- A row more for a program whose equations are kept.
use Rattle.std.specs.Prelude.{◌≡◌, ◌≢◌, ℕ, ◌+◌, ◌-◌, ◌<◌, ℤ, pos, ◌-ℤ◌, ◌*ℤ◌, ◌<ℤ◌, nat_lt, ◌==◌, if◌then◌else◌, List, [], ◌∷◌, ◌++◌, length, slice_index, slice_set}
use Rattle.zr_basis.specs.Programs.{Program}
use Rattle.zr_basis.specs.BasicForms.{CombinesEquations, IsPrimitive}
use Rattle.zr_simplex.specs.RowSteps.{IsQuotient}
use Rattle.zr_simplex.specs.Tableaus.{Equations, IsPartition, form_of}

-- the program without the rows from this one on
abbrev pub first_rows : Program → ℕ → Program
first_rows p
    rows = record { columns = p.columns; rows = rows; coef = p.coef; le = p.le; aim = p.aim }

-- an equation after a slack column has come in before the value's, with the number `own` there
abbrev pub extended : ℕ → (ℕ → ℤ) → ℤ → ℕ → ℤ
extended slack e own j = if nat_lt j slack then e j else (if j == slack then own else e (j - 1))

-- made is a multiple of old, by a number above zero, less a multiple of e; so is its own number,
-- which stands after the first `width`, and of which e has none
pub record IsTakenOff (width : ℕ) (e old made : ℕ → ℤ) : Type 0 where
  pub by : ℤ
  pub less : ℤ
  pub above : (pos 0) <ℤ by
  pub numbers : (j : ℕ) → j < width → made j ≡ by *ℤ old j -ℤ less *ℤ e j
  pub own : made width ≡ by *ℤ old width

-- u, over the columns of the first rows and with its own number after them, is an equation of the
-- program in which the first columns of the basis have been cleared
pub record IsExpressed (p : Program) (rows count : ℕ) (basis : ℕ → ℕ) (form : ℕ → ℕ → ℤ)
    (u : ℕ → ℤ) : Type 0 where
  pub combination : CombinesEquations p (extended (p.columns + rows) u (u (p.columns + rows + 2)))
  pub own : (pos 0) <ℤ u (p.columns + rows + 2)
  pub value : u (p.columns + rows) ≡ pos 0
  pub cleared : (k : ℕ) → k < count → u (basis k) ≡ pos 0

-- the condensed numbers, times a number, are those of e at the columns off the basis and at `home`
pub record IsCondensed (free : List ℕ) (home : ℕ) (e made : ℕ → ℤ) : Type 0 where
  pub over : ℤ
  pub over_apart : over ≢ pos 0
  pub off : (k : ℕ) → k < length free → made k *ℤ over ≡ e (slice_index free k)
  pub own : made (length free) *ℤ over ≡ e home

-- u has come into the equations as row m, before the value's: its own column v, before the value's,
-- is in the basis, and the n columns off the basis and the right sides stay off it
pub record IsWithRow (m n v : ℕ) (old new : Equations) (u : ℕ → ℤ) : Type 0 where
  pub basis : new.basis ≡ old.basis ++ (v + 1) ∷ []
  pub free : new.free ≡ slice_set old.free n (v + 2)
  pub width : new.width ≡ v + 3
  pub partition : IsPartition new.width new.basis new.free
  pub rows : (i : ℕ) → i < m → (j : ℕ) → j < v + 3
      → form_of new i j ≡ extended v (form_of old i) (pos 0) j
  pub last : (j : ℕ) → j < v + 3 → form_of new (m + 1) j ≡ extended v (form_of old m) (pos 0) j
  pub made : IsQuotient (v + 3) (extended v u (u (v + 2))) (form_of new m)
  pub own : (pos 0) <ℤ form_of new m v
  pub primitive : IsPrimitive (v + 3) (form_of new m)
