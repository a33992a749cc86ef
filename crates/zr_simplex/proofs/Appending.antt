-- One step more of what appends a row.
use Rattle.std.proofs.Common.{◌≡◌, ◌≢◌, ℕ, ◌+◌, ◌<◌, ◌≤◌, arith, ap, ⊎_elim, ℤ, pos, ◌-ℤ◌, ◌*ℤ◌, ◌<ℤ◌, List, length, set, get_or-set_same, get_or-set_other}
use Rattle.std.proofs.lemmas.Bool.{cases_eq}
use Rattle.std.proofs.lemmas.Int.{ints}
use Rattle.zr_base.proofs.Ring.{spread}
use Rattle.zr_base.proofs.Divisors.{positive_factor}
use Rattle.zr_simplex.specs.Programs.{numbers}
use Rattle.zr_simplex.specs.StuckSteps.{AreCoprimeParts}
use Rattle.zr_simplex.specs.Appends.{IsTakenOff}
use Rattle.zr_simplex.proofs.Divide.{cancel_apart}

pub taken_more : (row init : List ℤ) (by less : ℤ) (f : ℕ → ℤ) (i : ℕ) (v : ℤ) → i < length row → ((j : ℕ) → j < i → numbers row j ≡ by *ℤ numbers init j -ℤ less *ℤ f j) → ((j : ℕ) → i ≤ j → numbers row j ≡ numbers init j) → v ≡ by *ℤ numbers row i -ℤ less *ℤ f i → (j : ℕ) → j < i + 1 → numbers (set row i v) j ≡ by *ℤ numbers init j -ℤ less *ℤ f j
taken_more row init by less f i v below done left is j h = ⊎_elim (λ (e : j ≡ i). rw (e, get_or-set_same row i v (pos 0) below, ← left i (omega arith)) is) (λ (a : j ≢ i). rw (get_or-set_other row i j v (pos 0) a) (done j (omega arith))) (cases_eq j i)

-- nothing is taken off
pub taken_none : (width : ℕ) (e old : ℕ → ℤ) → IsTakenOff width e old old
taken_none width e old = record {
  by = pos 1;
  less = pos 0;
  above = omega (arith, ints);
  numbers = λ j h. omega (arith, ints);
  own = omega (arith, ints);
}

module _ (p a by less : ℤ) (low : AreCoprimeParts p a by less) where
  pub by_above : (pos 0) <ℤ p → (pos 0) <ℤ by
  by_above above = positive_factor by low.over (rw low.first above) low.positive

  crossed : by *ℤ a ≡ less *ℤ p
  crossed =
      let g = simp spread at (ap (λ x. x *ℤ a) low.first) in
      let h = simp spread at (ap (λ x. x *ℤ p) low.second) in
      let o : low.over ≢ pos 0 = λ e. (let q = low.positive in omega (arith, ints, q, e)) in
      cancel_apart (by *ℤ a) (less *ℤ p) low.over o (simp spread (omega (arith, ints, g, h)))

  pub taken_zero : by *ℤ a -ℤ less *ℤ p ≡ pos 0
  taken_zero = let c = crossed in omega (arith, ints, c)
