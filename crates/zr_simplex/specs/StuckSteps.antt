-- The steps at a basis that can be too wide: those of a pivot, and those of its basic solution and
-- directions.
use Rattle.std.specs.Prelude.{◌≡◌, ◌≢◌, ℕ, ◌+◌, ◌<◌, ◌≤◌, ℤ, pos, neg_ℤ, ◌*ℤ◌, ◌<ℤ◌, unsigned_abs, length, slice_index, ◌⊎◌, Err}
use Rattle.std.specs.Int.{IsGcd, ◌∣◌}
use Rattle.zr_base.specs.declared.step.Wide.{Wide}
use Rattle.zr_base.specs.Steps.{IsNarrow, cross_of}
use Rattle.zr_lin.specs.declared.stuck.Step.{Step}
use Rattle.zr_lin.specs.declared.stuck.Step.TheVariants as AStep
use Rattle.zr_lin.specs.declared.stuck.Stuck.{Stuck}
use Rattle.zr_basis.specs.Programs.{Program}
use Rattle.zr_basis.specs.BasicForms.{value_column, right_column, IsBasicForm}

-- by and less are p and a divided by their greatest common divisor
pub record AreCoprimeParts (p a by less : ℤ) : Type 0 where
  pub over : ℤ
  pub positive : (pos 0) <ℤ over
  pub gcd : IsGcd (unsigned_abs p) (unsigned_abs a) (unsigned_abs over)
  pub first : by *ℤ over ≡ p
  pub second : less *ℤ over ≡ a

-- where the equation f of a pivot at column col changes the equation e, whose number there isn't
-- zero, w is the step that makes the number at column j
abbrev pub IsWidePivot : (ℕ → ℤ) → (ℕ → ℤ) → ℕ → ℕ → Wide → Type 0
IsWidePivot f e col j w =
    (by : ℤ) × (less : ℤ) × (f col ≢ pos 0) × (e col ≢ pos 0)
    × AreCoprimeParts (f col) (e col) by less × (cross_of (by, e j) (less, f j) ≡ Err w)

-- den is the least common multiple of the first equations' numbers at their own columns
pub record IsLeastCommonMultiple (basis : ℕ → ℕ) (form : ℕ → ℕ → ℤ) (last : ℕ)
    (den : ℤ) : Type 0 where
  pub positive : (pos 0) <ℤ den
  pub multiple : (i : ℕ) → i < last → (k : ℤ) × (k *ℤ form i (basis i) ≡ den)
  pub least : (z : ℕ) → ((i : ℕ) → i < last → unsigned_abs (form i (basis i)) ∣ z)
      → unsigned_abs den ∣ z

-- w is the step that takes the number of this row into the multiple of those before it, which is
-- narrow
abbrev pub IsWideMultiple : (ℕ → ℕ) → (ℕ → ℕ → ℤ) → ℕ → Wide → Type 0
IsWideMultiple basis form row w =
    (den : ℤ) × (by : ℤ) × (less : ℤ) × IsNarrow den × IsLeastCommonMultiple basis form row den
    × AreCoprimeParts (form row (basis row)) den by less
    × (cross_of (den, by) (pos 0, pos 0) ≡ Err w)

-- the numerator over den of row i, by its equation
abbrev pub IsNumerator : (ℕ → ℕ) → (ℕ → ℕ → ℤ) → ℤ → (ℕ → ℤ) → ℕ → ℤ → Type 0
IsNumerator basis form den value i x = form i (basis i) *ℤ x ≡ value i *ℤ den

-- w is the step that makes the numerator of this row over the multiple of all, which is narrow, as
-- are the numerators before it
abbrev pub IsWideNumerator : (ℕ → ℕ) → (ℕ → ℕ → ℤ) → ℕ → (ℕ → ℤ) → ℕ → Wide → Type 0
IsWideNumerator basis form rows value row w =
    (den : ℤ) × (part : ℤ) × IsNarrow den × IsLeastCommonMultiple basis form rows den
    × ((i : ℕ) → i < row → (x : ℤ) × IsNumerator basis form den value i x × IsNarrow x)
    × (part *ℤ form row (basis row) ≡ den) × (cross_of (value row, part) (pos 0, pos 0) ≡ Err w)

-- w is one of the two at this row, where the numerators are those of `value`
abbrev pub IsWideAt : ℕ → (ℕ → ℕ) → (ℕ → ℕ → ℤ) → (ℕ → ℤ) → ℕ → Wide → Type 0
IsWideAt rows basis form value row w =
    (row < rows) × (IsWideMultiple basis form row w ⊎ IsWideNumerator basis form rows value row w)

-- w is this step of the basic form, and is too wide
abbrev pub IsWideStep : Program → (ℕ → ℕ) → (ℕ → ℕ → ℤ) → Step → Wide → Type 0
IsWideStep p basis form (AStep.Pivot row col at_row at_col) w =
    (row < p.rows) × (col < value_column p) × (at_row ≤ p.rows) × (at_row ≢ row)
    × (at_col ≤ right_column p) × IsWidePivot (form row) (form at_row) col at_col w
IsWideStep p basis form (AStep.Point row) w =
    IsWideAt p.rows basis form (λ i. form i (right_column p)) row w
IsWideStep p basis form (AStep.Ray row col) w =
    (col < value_column p) × ((i : ℕ) → i < p.rows → col ≢ basis i)
    × IsWideAt p.rows basis form (λ i. neg_ℤ (form i col)) row w

-- the kept columns are a basis of the program, and the kept step of its basic form is the kept one
-- and too wide
abbrev pub IsStuck : Program → Stuck → Type 0
IsStuck p stuck =
    (length stuck.basis.items ≡ p.rows + 1) × (form : ℕ → ℕ → ℤ)
    × IsBasicForm p (λ i. slice_index stuck.basis.items i) form
    × IsWideStep p (λ i. slice_index stuck.basis.items i) form stuck.step stuck.wide
