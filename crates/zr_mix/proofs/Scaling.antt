-- The sum of shares is the weighted sum over the total.
use Rattle.std.proofs.Common.{◌≡◌, arith, ℤ, pos, ◌+ℤ◌, ◌*ℤ◌, ◌<ℤ◌}
use Rattle.std.proofs.lemmas.Int.{ints}
use Rattle.zr_base.specs.Fractions.{Fraction, IsSame, over, plus, ratio, times, whole}
use Rattle.zr_base.proofs.Ring.{spread}
use Rattle.zr_base.proofs.Divisors.{cancel, mul_positive}

scaled_num : (fn fd wn wd w t n d : ℤ) → (pos 0) <ℤ t
    → fn *ℤ ((wd *ℤ t) *ℤ (t *ℤ d)) ≡ (wn *ℤ (t *ℤ d) +ℤ (w *ℤ n) *ℤ (wd *ℤ t)) *ℤ fd
    → fn *ℤ ((wd *ℤ d) *ℤ t) ≡ (wn *ℤ d +ℤ (w *ℤ n) *ℤ wd) *ℤ fd
scaled_num fn fd wn wd w t n d positive e =
    let s = simp spread at e in
    cancel (fn *ℤ ((wd *ℤ d) *ℤ t)) ((wn *ℤ d +ℤ (w *ℤ n) *ℤ wd) *ℤ fd) t positive
    (simp spread (omega (arith, ints, s)))

-- one share more
pub one_share : (f sum x : Fraction) (w t : ℤ) → (pos 0) <ℤ t → (pos 0) <ℤ sum.den
    → (pos 0) <ℤ x.den → IsSame f (plus (over sum t) (times (ratio w t) x))
    → IsSame f (over (plus sum (times (whole w) x)) t)
one_share f sum x w t positive above below e =
    let one : pos 1 *ℤ x.den ≡ x.den = omega (arith, ints) in
    let den : (pos 0) <ℤ ((sum.den *ℤ (pos 1 *ℤ x.den)) *ℤ t) = rw one
    (mul_positive (sum.den *ℤ x.den) t (mul_positive sum.den x.den above below) positive) in
    record {
      left = e.left;
      right = den;
      cross = rw one (scaled_num f.num f.den sum.num sum.den w t x.num x.den positive e.cross);
    }
