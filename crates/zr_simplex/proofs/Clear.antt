-- An equation whose column is cleared by another.
use Rattle.std.proofs.Common.{◌≡◌, ◌≢◌, ℕ, ◌<◌, arith, sym, ap, ◌∙◌, ℤ, pos, ◌-ℤ◌, ◌*ℤ◌, ◌<ℤ◌, List, length, Ok}
use Rattle.std.proofs.lemmas.Int.{ints}
use Rattle.zr_base.specs.Steps.{cross_of}
use Rattle.zr_base.proofs.CrossLaws.{cross_ok}
use Rattle.zr_base.proofs.Ring.{spread}
use Rattle.zr_basis.specs.BasicForms.{IsPrimitive}
use Rattle.zr_simplex.specs.RowSteps.{IsQuotient, IsCleared, entered}
use Rattle.zr_simplex.specs.Programs.{numbers}
use Rattle.zr_simplex.specs.StuckSteps.{AreCoprimeParts}
use Rattle.zr_simplex.proofs.Divide.{cancel_apart, zero_if}
use Rattle.zr_simplex.proofs.Swaps.{entered_same}

-- an equation that needs no step
pub cleared_none : (width : ℕ) (p : ℤ) (f : ℕ → ℤ) (xs : List ℤ) (place home : ℕ) → numbers xs place ≡ pos 0 → (pos 0) <ℤ numbers xs home → IsPrimitive width (numbers xs) → IsCleared width p (numbers xs place) f (numbers (entered place xs)) (numbers xs) home
cleared_none width p f xs place home zero above primitive = record {
  mixture = record {
    by = pos 1;
    less = pos 0;
    over = pos 1;
    by_apart = λ h. cc;
    over_apart = λ h. cc;
    numbers = λ j h. let e = ap (λ ys. numbers ys j) (entered_same place xs zero) in omega (arith, ints, e);
  };
  cleared = omega (arith, ints, zero);
  own = above;
  primitive = primitive;
}

positive_apart : (z : ℤ) → (pos 0) <ℤ z → z ≢ pos 0
positive_apart z h e = omega (arith, ints, h, e)

crossed : (by less over p a : ℤ) → by *ℤ over ≡ p → less *ℤ over ≡ a → (by *ℤ a) *ℤ over ≡ (less *ℤ p) *ℤ over
crossed by less over p a e f =
    let g = simp spread at (ap (λ x. x *ℤ a) e) in
    let h = simp spread at (ap (λ x. x *ℤ p) f) in
    simp spread (omega (arith, ints, g, h))

module _ (f e mid : List ℤ) (home : ℕ) (p a by less : ℤ) (own : home < length e) (same : length mid ≡ length e) (apart : p ≢ pos 0) (other : numbers f home ≡ pos 0) (above : (pos 0) <ℤ numbers e home) (low : AreCoprimeParts p a by less) (steps : (j : ℕ) → j < length e → cross_of (by, numbers e j) (less, numbers f j) ≡ Ok (numbers mid j)) where
  value : (j : ℕ) → j < length e → numbers mid j ≡ by *ℤ numbers e j -ℤ less *ℤ numbers f j
  value j h = (cross_ok (by, numbers e j) (less, numbers f j) (numbers mid j) (sym (steps j h))).0

  by_apart : by ≢ pos 0
  by_apart z = apart (sym low.first ∙ ap (λ x. x *ℤ low.over) z ∙ omega (arith, ints))

  mid_home : numbers mid home ≡ by *ℤ numbers e home
  mid_home = value home own ∙ rw other (omega (arith, ints))

  pub mid_apart : numbers mid home ≢ pos 0
  mid_apart z =
      by_apart (zero_if by (numbers e home) (positive_apart (numbers e home) above) (sym mid_home ∙ z))

  pub cleared : (made : List ℤ) → IsQuotient (length mid) (numbers mid) (numbers made) → (pos 0) <ℤ numbers made home → IsPrimitive (length mid) (numbers made) → IsCleared (length e) p a (numbers f) (numbers e) (numbers made) home
  cleared made q up primitive = record {
    mixture = record {
      by = by;
      less = less;
      over = q.over;
      by_apart = by_apart;
      over_apart = q.over_apart;
      numbers = λ j h. q.numbers j (omega (arith, same, h)) ∙ value j h;
    };
    cleared = cancel_apart (by *ℤ a) (less *ℤ p) low.over (positive_apart low.over low.positive) (crossed by less low.over p a low.first low.second);
    own = up;
    primitive = rw (← same) primitive;
  }
