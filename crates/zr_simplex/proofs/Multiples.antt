-- Common multiples, and numerators over them.
use Rattle.std.proofs.Common.{◌≡◌, ◌≢◌, ℕ, ◌+◌, ◌<◌, arith, refl, sym, ap, ◌∙◌, ℤ, pos, ◌*ℤ◌, ◌<ℤ◌, unsigned_abs, List, length, set, Ok, ⊎_elim, get_or-set_same, get_or-set_other}
use Rattle.std.proofs.lemmas.Bool.{cases_eq}
use Rattle.std.proofs.lemmas.Int.{ints, unsigned_abs-mul}
use Rattle.std.proofs.Math.Nat.{dvd-mul_left}
use Rattle.std.specs.Int.{◌∣◌}
use Rattle.zr_base.specs.Steps.{IsNarrow, cross_of}
use Rattle.zr_base.proofs.CrossLaws.{cross_ok}
use Rattle.zr_base.proofs.Divisors.{positive_factor, mul_positive}
use Rattle.zr_base.proofs.Ring.{spread}
use Rattle.zr_simplex.specs.RowSteps.{IsSolved}
use Rattle.zr_simplex.specs.Programs.{numbers}
use Rattle.zr_simplex.specs.StuckSteps.{AreCoprimeParts, IsLeastCommonMultiple}
use Rattle.zr_simplex.proofs.Lcm.{least_more}

product_is : (a b v : ℤ) → Ok v ≡ cross_of (a, b) (pos 0, pos 0) → (v ≡ a *ℤ b) × IsNarrow v
product_is a b v e =
    let r = cross_ok (a, b) (pos 0, pos 0) v e in
    (r.0 ∙ omega (arith, ints), r.1)

other_multiple : (k by own den more : ℤ) → k *ℤ own ≡ den → more ≡ den *ℤ by → (k *ℤ by) *ℤ own ≡ more
other_multiple k by own den more e f =
    let g = simp spread at (ap (λ x. x *ℤ by) e) in
    let h : (k *ℤ by) *ℤ own ≡ den *ℤ by = simp spread (omega (arith, ints, g)) in
    h ∙ sym f

own_multiple : (by less over own den more : ℤ) → by *ℤ over ≡ own → less *ℤ over ≡ den → more ≡ den *ℤ by → less *ℤ own ≡ more
own_multiple by less over own den more e f g = rw (g, ← e, ← f) (simp spread refl)

module _ (i : ℕ) (own : ℕ → ℤ) (den by less more : ℤ) (above : (pos 0) <ℤ own i) (positive : (pos 0) <ℤ den) (low : AreCoprimeParts (own i) den by less) (step : Ok more ≡ cross_of (den, by) (pos 0, pos 0)) where
  pub more_positive : (pos 0) <ℤ more
  more_positive =
      rw (product_is den by more step).0 (mul_positive den by positive (positive_factor by low.over (rw low.first above) low.positive))

  pub more_narrow : IsNarrow more
  more_narrow = (product_is den by more step).1

  pub more_multiple : ((j : ℕ) → j < i → (k : ℤ) × (k *ℤ own j ≡ den)) → (j : ℕ) → j < i + 1 → (k : ℤ) × (k *ℤ own j ≡ more)
  more_multiple before j h = ⊎_elim (λ (e : j ≡ i). rw e (less, own_multiple by less low.over (own i) den more low.first low.second (product_is den by more step).0)) (λ (a : j ≢ i). let b = before j (omega arith) in (b.0 *ℤ by, other_multiple b.0 by (own j) den more b.1 (product_is den by more step).0)) (cases_eq j i)

-- the multiple with one row more
pub more_is : (i : ℕ) (basis : ℕ → ℕ) (form : ℕ → ℕ → ℤ) (den by less more : ℤ) → (pos 0) <ℤ form i (basis i) → IsLeastCommonMultiple basis form i den → AreCoprimeParts (form i (basis i)) den by less → Ok more ≡ cross_of (den, by) (pos 0, pos 0) → IsLeastCommonMultiple basis form (i + 1) more
more_is i basis form den by less more above before low step =
    let own : ℕ → ℤ = λ j. form j (basis j) in
    record {
      positive = more_positive i own den by less more above before.positive low step;
      multiple = more_multiple i own den by less more above before.positive low step before.multiple;
      least = λ z h. least_more by low.over (own i) den more z low.positive low.first (product_is den by more step).0 low.gcd (h i (omega arith)) (before.least z (λ j q. h j (omega arith)));
    }

pub divides_multiple : (k own den : ℤ) → k *ℤ own ≡ den → unsigned_abs own ∣ unsigned_abs den
divides_multiple k own den e = rw (← e, unsigned_abs-mul k own) (dvd-mul_left (unsigned_abs own) (unsigned_abs k))

pub apart_columns : (count width : ℕ) (basis : ℕ → ℕ) (form : ℕ → ℕ → ℤ) → IsSolved count width basis form → (i k : ℕ) → i < count → k < count → i ≢ k → basis i ≢ basis k
apart_columns count width basis form solved i k h q apart e =
    let z = solved.other i k h q apart in
    let p = solved.own i h in
    let s = ap (form i) e in
    omega (arith, ints, z, p, s)

numerator : (own v part den x : ℤ) → part *ℤ own ≡ den → x ≡ v *ℤ part → own *ℤ x ≡ v *ℤ den
numerator own v part den x e f = rw (f, ← e) (simp spread refl)

-- one numerator more is put into its place
module _ (places init : List ℤ) (basis : ℕ → ℕ) (own value : ℕ → ℤ) (i : ℕ) (den part x : ℤ) (below : basis i < length places) (exact : part *ℤ own i ≡ den) (step : Ok x ≡ cross_of (value i, part) (pos 0, pos 0)) where
  pub on_more : ((k : ℕ) → k < i → basis k ≢ basis i) → ((k : ℕ) → k < i → own k *ℤ numbers places (basis k) ≡ value k *ℤ den) → (k : ℕ) → k < i + 1 → own k *ℤ numbers (set places (basis i) x) (basis k) ≡ value k *ℤ den
  on_more apart on k h = ⊎_elim (λ (e : k ≡ i). rw (e, get_or-set_same places (basis i) x (pos 0) below) (numerator (own i) (value i) part den x exact (product_is (value i) part x step).0)) (λ (a : k ≢ i). let q = apart k (omega arith) in rw (get_or-set_other places (basis i) (basis k) x (pos 0) q) (on k (omega arith))) (cases_eq k i)

  pub off_more : ((j : ℕ) → ((k : ℕ) → k < i → j ≢ basis k) → numbers places j ≡ numbers init j) → (j : ℕ) → ((k : ℕ) → k < i + 1 → j ≢ basis k) → numbers (set places (basis i) x) j ≡ numbers init j
  off_more off j out =
      let a = out i (omega arith) in
      rw (get_or-set_other places (basis i) j x (pos 0) a) (off j (λ k h. out k (omega arith)))

  pub x_narrow : IsNarrow x
  x_narrow = (product_is (value i) part x step).1
