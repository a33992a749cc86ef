-- A point without its greatest divisor is the same point, in lowest terms.
use Rattle.std.proofs.Common.{◌≡◌, ℕ, zero, suc, ◌*◌, ◌<◌, ◌≤◌, arith, sym, ap, subst, ℤ, pos, ◌*ℤ◌, ◌<ℤ◌, unsigned_abs, int_div, List, [], ◌∷◌, length, map, slice_index_or, le-mul_of_pos_right}
use Rattle.std.proofs.Math.IntN.{zero-*ℤ}
use Rattle.std.proofs.lemmas.Int.{ints, unsigned_abs-mul}
use Rattle.std.proofs.lemmas.List.{length-map}
use Rattle.std.specs.Int.{◌∣◌}
use Rattle.zr_base.specs.Points.{IsPoint, IsSamePoint, PointOf, num_of}
use Rattle.zr_base.specs.Steps.{IsNarrow}
use Rattle.zr_base.proofs.Divisors.{positive_factor, quot_exact}
use Rattle.zr_base.proofs.Members.{each_of_all}
use Rattle.zr_base.proofs.Ring.{spread}
use Rattle.zr_base.proofs.Worth.{Each}
use Rattle.zr_system.proofs.Joined.{all_of_each}
use Rattle.zr_tidy.specs.Points.{DividesPoint, IsGreatestDivisor, IsLowestPoint, point_without}
use Rattle.zr_tidy.proofs.Tidying.{one_left, raised}

-- a factor of a narrow number is narrow
pub narrow_factor : (n g a : ℤ) → n *ℤ g ≡ a → (pos 0) <ℤ g → IsNarrow a → IsNarrow n
narrow_factor n g a e positive narrow =
    let least : 0 < unsigned_abs g = omega (arith, ints, positive) in
    let factor : unsigned_abs n ≤ unsigned_abs n * unsigned_abs g =
    le-mul_of_pos_right (unsigned_abs n) least in
    omega (arith, unsigned_abs-mul n g, ap unsigned_abs e, factor, narrow)

multiples : (n d k num den : ℤ) → n *ℤ k ≡ num → d *ℤ k ≡ den → n *ℤ den ≡ num *ℤ d
multiples n d k num den over under = rw (← over, ← under) (simp spread)

-- the number divides each of the list
abbrev pub DividesEach : ℤ → List ℤ → Type 0
DividesEach z xs =
    (v : ℕ) → v < length xs → unsigned_abs z ∣ unsigned_abs (slice_index_or xs v (pos 0))

abbrev without : ℤ → List ℤ → List ℤ
without z xs = map (λ n. int_div n z) xs

exact_at : (z : ℤ) (xs : List ℤ) → DividesEach z xs → (v : ℕ)
    → slice_index_or (without z xs) v (pos 0) *ℤ z ≡ slice_index_or xs v (pos 0)
exact_at z [] h v = zero-*ℤ z
exact_at z (n ∷ ns) h zero = quot_exact n z (h 0 (omega arith))
exact_at z (n ∷ ns) h (suc v) = exact_at z ns (λ u p. h (suc u) (omega arith)) v

narrow_each : (z : ℤ) → (pos 0) <ℤ z → (xs : List ℤ) → DividesEach z xs → Each IsNarrow xs
    → Each IsNarrow (without z xs)
narrow_each z p [] h e = tt
narrow_each z p (n ∷ ns) h e = (
  narrow_factor (int_div n z) z n (quot_exact n z (h 0 (omega arith))) p e.0,
  narrow_each z p ns (λ u q. h (suc u) (omega arith)) e.1,
)

module _ (x : PointOf) (z : ℤ) (form : IsPoint x.num x.den) (g : IsGreatestDivisor z x) where
  den_back : int_div x.den z *ℤ z ≡ x.den
  den_back = quot_exact x.den z g.divides.0

  num_back : (v : ℕ) → num_of (point_without z x) v *ℤ z ≡ num_of x v
  num_back v = exact_at z x.num g.divides.1 v

  den_positive : (pos 0) <ℤ int_div x.den z
  den_positive = positive_factor (int_div x.den z) z (rw den_back form.0) g.positive

  pub lowered_form : IsPoint (map (λ n. int_div n z) x.num) (int_div x.den z)
  lowered_form = (
    den_positive,
    narrow_factor (int_div x.den z) z x.den den_back g.positive form.1,
    all_of_each IsNarrow (without z x.num)
        (narrow_each z g.positive x.num g.divides.1 (each_of_all IsNarrow x.num form.2)),
  )

  pub lowered_same : IsSamePoint (point_without z x) x
  lowered_same = record {
    left = den_positive;
    right = form.0;
    len = length-map x.num (λ n. int_div n z);
    values = λ v. multiples (num_of (point_without z x) v) (int_div x.den z) z (num_of x v) x.den
        (num_back v) den_back;
  }

  divides_before : (d : ℕ) → DividesPoint d (point_without z x)
      → DividesPoint (d * unsigned_abs z) x
  divides_before d h = (
    raised d z (int_div x.den z) x.den den_back h.0,
    λ v p. raised d z (num_of (point_without z x) v) (num_of x v) (num_back v)
        (h.1 v (subst (λ n. v < n) (sym (length-map x.num (λ n. int_div n z))) p)),
  )

  pub lowered_lowest : IsLowestPoint (point_without z x)
  lowered_lowest =
      let positive = g.positive in
      record {
        den = den_positive;
        coprime = λ d h. one_left d (unsigned_abs z) (omega (arith, ints, positive))
            (g.greatest (d * unsigned_abs z) (divides_before d h));
      }
