-- Sums and products of whole numbers that are narrow: never too wide, and whole.
use Rattle.std.proofs.Common.{◌≡◌, ℕ, arith, refl, ap, ◌∙◌, ℤ, pos, neg_ℤ, ◌+ℤ◌, ◌-ℤ◌, ◌*ℤ◌, unsigned_abs, int_div, Ok}
use Rattle.std.proofs.Math.Nat.{one-dvd}
use Rattle.std.proofs.lemmas.Int.{ints}
use Rattle.std.proofs.lemmas.Nat.Gcd.{same_from_IsGcd}
use Rattle.zr_base.specs.Steps.{IsNarrow, cross_of}
use Rattle.zr_base.specs.Fractions.{whole}
use Rattle.zr_base.specs.Lowest.{IsLowest, gcd_of, reduce, add_of, mul_of}
use Rattle.zr_base.proofs.CrossLaws.{cross_is}
use Rattle.zr_base.proofs.Divisors.{quot_exact}
use Rattle.zr_base.proofs.Gcds.{gcd_of_is}

gcd_one : (a : ℕ) → gcd_of a 1 ≡ 1
gcd_one a =
    same_from_IsGcd a 1 (gcd_of a 1) 1 (gcd_of_is a 1) (one-dvd a, one-dvd 1, λ k p q. q)

by_one : (z : ℤ) → int_div z (pos 1) ≡ z
by_one z = let e = quot_exact z (pos 1) (one-dvd (unsigned_abs z)) in omega (arith, ints, e)

pub reduce_whole : (z : ℤ) → reduce z (pos 1) ≡ whole z
unfolding reduce
reduce_whole z =
    let g = gcd_one (unsigned_abs z) in
    rw (g, by_one z, by_one (pos 1)) refl

pub lowest_whole : (z : ℤ) → IsNarrow z → IsLowest (whole z)
lowest_whole z h = record {
  ratio = record { positive = omega (arith, ints); narrow_num = h; narrow_den = omega (arith, ints) };
  coprime = (one-dvd (unsigned_abs z), one-dvd 1, λ k p q. q);
}

step_is : (left right : ℤ × ℤ) (v : ℤ) → IsNarrow (left.0 *ℤ left.1) → IsNarrow (right.0 *ℤ right.1) → left.0 *ℤ left.1 -ℤ right.0 *ℤ right.1 ≡ v → IsNarrow v → cross_of left right ≡ Ok v
step_is left right v p q e h = cross_is left right p q (rw e h) ∙ ap Ok e

one_step : cross_of (pos 1, pos 1) (pos 0, pos 0) ≡ Ok (pos 1)
one_step =
    step_is (pos 1, pos 1) (pos 0, pos 0) (pos 1) (omega (arith, ints)) (omega (arith, ints)) refl (omega (arith, ints))

pub add_of_wholes : (a b : ℤ) → IsNarrow a → IsNarrow b → IsNarrow (a +ℤ b) → add_of (whole a) (whole b) ≡ Ok (whole (a +ℤ b))
unfolding add_of
add_of_wholes a b p q r =
    let g : gcd_of 1 1 ≡ 1 = gcd_one 1 in
    let one = by_one (pos 1) in
    let x : a *ℤ pos 1 ≡ a = omega (arith, ints) in
    let y : neg_ℤ b *ℤ pos 1 ≡ neg_ℤ b = omega (arith, ints) in
    let first = step_is (a, pos 1) (neg_ℤ b, pos 1) (a +ℤ b) (rw x p) (rw y (omega (arith, ints, q))) (omega (arith, ints)) r in
    rw (g, one, first, one_step, reduce_whole (a +ℤ b)) refl

pub mul_of_wholes : (a b : ℤ) → IsNarrow (a *ℤ b) → mul_of (whole a) (whole b) ≡ Ok (whole (a *ℤ b))
unfolding mul_of
mul_of_wholes a b h =
    let g = gcd_one (unsigned_abs a) in
    let k = gcd_one (unsigned_abs b) in
    let first = step_is (a, b) (pos 0, pos 0) (a *ℤ b) h (omega (arith, ints)) (omega (arith, ints)) h in
    rw (g, k, by_one a, by_one b, by_one (pos 1), first, one_step, reduce_whole (a *ℤ b)) refl
