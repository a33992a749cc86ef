-- The steps of a pivot on the equations, one after the other.
use Rattle.std.specs.Prelude.{◌≡◌, ◌≢◌, ◌↔◌, ℕ, ◌+◌, ◌<◌, ◌≤◌, ℤ, pos, ◌-ℤ◌, ◌*ℤ◌, ◌<ℤ◌, unsigned_abs, List, slice_set, Err}
use Rattle.std.specs.Int.{◌∣◌}
use Rattle.zr_base.specs.declared.step.Wide.{Wide}
use Rattle.zr_base.specs.Steps.{cross_of}
use Rattle.zr_simplex.specs.Programs.{numbers}
use Rattle.zr_basis.specs.BasicForms.{IsPrimitive}
use Rattle.zr_simplex.specs.StuckSteps.{AreCoprimeParts}

-- made is e divided by a number
pub record IsQuotient (width : ℕ) (e made : ℕ → ℤ) : Type 0 where
  pub over : ℤ
  pub over_apart : over ≢ pos 0
  pub numbers : (j : ℕ) → j < width → made j *ℤ over ≡ e j

-- made is a multiple of e less a multiple of f, divided by a number
pub record IsMixture (width : ℕ) (e f made : ℕ → ℤ) : Type 0 where
  pub by : ℤ
  pub less : ℤ
  pub over : ℤ
  pub by_apart : by ≢ pos 0
  pub over_apart : over ≢ pos 0
  pub numbers : (j : ℕ) → j < width → made j *ℤ over ≡ by *ℤ e j -ℤ less *ℤ f j

-- g is the greatest common divisor of the first numbers of f
abbrev pub IsGreatest : ℕ → (ℕ → ℤ) → ℕ → Type 0
IsGreatest count f g = (d : ℕ) → ((j : ℕ) → j < count → d ∣ unsigned_abs (f j)) ↔ (d ∣ g)

-- made is a mixture of e and f in which the number a of the one and p of the other at the pivot's
-- column cancel out, has no common divisor, and is above zero at its own place
pub record IsCleared (width : ℕ) (p a : ℤ) (f e made : ℕ → ℤ) (home : ℕ) : Type 0 where
  pub mixture : IsMixture width e f made
  pub cleared : mixture.by *ℤ a ≡ mixture.less *ℤ p
  pub own : (pos 0) <ℤ made home
  pub primitive : IsPrimitive width made

-- w is the step that makes the number at place j where p of the equation f clears a of the equation
-- e
abbrev pub IsWideClear : ℤ → ℤ → (ℕ → ℤ) → (ℕ → ℤ) → ℕ → Wide → Type 0
IsWideClear p a f e j w =
    (by : ℤ) × (less : ℤ) × (a ≢ pos 0) × AreCoprimeParts p a by less
    × (cross_of (by, e j) (less, f j) ≡ Err w)

-- an equation after its column has come in at this place, where it is zero
abbrev pub entered : ℕ → List ℤ → List ℤ
entered place xs = slice_set xs place (pos 0)

-- the pivot's equation for the others: its column comes in at this place, and another one takes its
-- own
abbrev pub left : ℕ → ℕ → List ℤ → List ℤ
left place own xs = slice_set (slice_set xs place (numbers xs own)) own (pos 0)

-- the pivot's equation after the exchange of its own number and that at this place
abbrev pub swapped : ℕ → ℕ → List ℤ → List ℤ
swapped place own xs = slice_set (left place own xs) own (numbers xs place)

-- the condensed equations after the column at this place has taken that of the basis column of
-- equation r
pub record IsExchange (count own r place : ℕ) (old made : ℕ → List ℤ) : Type 0 where
  pub pivoted : IsQuotient (own + 1) (numbers (swapped place own (old r))) (numbers (made r))
  pub here : (pos 0) <ℤ numbers (made r) own
  pub primitive : IsPrimitive (own + 1) (numbers (made r))
  pub changed : (i : ℕ) → i < count → i ≢ r
      → IsCleared (own + 1) (numbers (old r) place) (numbers (old i) place)
      (numbers (left place own (old r))) (numbers (entered place (old i))) (numbers (made i)) own

-- each of the first equations stands for its column of the basis: above zero there, zero at the
-- others
pub record IsSolved (count width : ℕ) (basis : ℕ → ℕ) (form : ℕ → ℕ → ℤ) : Type 0 where
  pub places : (i : ℕ) → i < count → basis i < width
  pub own : (i : ℕ) → i < count → (pos 0) <ℤ form i (basis i)
  pub other : (i k : ℕ) → i < count → k < count → i ≢ k → form i (basis k) ≡ pos 0
  pub primitive : (i : ℕ) → i < count → IsPrimitive width (form i)

-- made are the equations after column col has taken the place of the basis column of equation r
pub record IsPivot (count width : ℕ) (basis : ℕ → ℕ) (form : ℕ → ℕ → ℤ) (r col : ℕ)
    (made : ℕ → ℕ → ℤ) : Type 0 where
  pub pivoted : IsQuotient width (form r) (made r)
  pub changed : (i : ℕ) → i < count → i ≢ r → IsMixture width (form i) (form r) (made i)
  pub cleared : (i : ℕ) → i < count → i ≢ r → made i col ≡ pos 0
  pub here : (pos 0) <ℤ made r col
  pub own : (i : ℕ) → i < count → i ≢ r → (pos 0) <ℤ made i (basis i)
  pub primitive : (i : ℕ) → i < count → IsPrimitive width (made i)

-- e has the coefficients, 1 at its own column, and the right side as its last number
pub record IsFirstEquation (columns width own : ℕ) (coef : ℕ → ℤ) (le : ℤ)
    (e : ℕ → ℤ) : Type 0 where
  pub coefs : (j : ℕ) → j < columns → e j ≡ coef j
  pub one : e own ≡ pos 1
  pub right : e (width + 1) ≡ le
  pub zeros : (j : ℕ) → columns ≤ j → j < width + 1 → j ≢ own → e j ≡ pos 0

-- the condensed equation has the coefficients, then the right side, and 1 at its own column
pub record IsFirst (columns : ℕ) (coef : ℕ → ℤ) (le : ℤ) (e : ℕ → ℤ) : Type 0 where
  pub coefs : (j : ℕ) → j < columns → e j ≡ coef j
  pub right : e columns ≡ le
  pub one : e (columns + 1) ≡ pos 1
