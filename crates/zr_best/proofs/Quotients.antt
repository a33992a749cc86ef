-- A value over a denominator above zero, in lowest terms, whatever the size of its numbers.
use Rattle.std.proofs.Common.{◌≡◌, ℕ, ◌*◌, ◌<◌, arith, sym, ap, subst, ◌∙◌, one-mul, ℤ, pos, ◌*ℤ◌, ◌<ℤ◌, unsigned_abs, int_div}
use Rattle.std.proofs.Math.Nat.{dvd_of_mul-dvd-mul_right, mul-dvd-mul_right, one-dvd, pos_of_dvd_of_pos}
use Rattle.std.proofs.lemmas.Int.{ints, unsigned_abs-mul}
use Rattle.std.specs.Int.{IsGcd, ◌∣◌}
use Rattle.zr_base.specs.Fractions.{Fraction}
use Rattle.zr_base.specs.Lowest.{gcd_of}
use Rattle.zr_base.proofs.Divisors.{positive_factor, quot_exact}
use Rattle.zr_base.proofs.Gcds.{gcd_of_is}
use Rattle.zr_base.proofs.Ring.{spread}

-- a fraction with the value, whose numbers share no divisor
pub record Quotient (num den : ℤ) : Type 0 where
  pub value : Fraction
  pub positive : (pos 0) <ℤ value.den
  pub coprime : IsGcd (unsigned_abs value.num) (unsigned_abs value.den) 1
  pub same : value.num *ℤ den ≡ num *ℤ value.den

module _ (num den n d : ℤ) (g : ℕ) (some : 0 < g) (is : IsGcd (unsigned_abs num) (unsigned_abs den) g)
    (over : n *ℤ pos g ≡ num) (under : d *ℤ pos g ≡ den) where
  below : (k : ℕ) (z a : ℤ) → z *ℤ pos g ≡ a → k ∣ unsigned_abs z → k * g ∣ unsigned_abs a
  below k z a e h =
      subst (λ m. k * g ∣ m) (sym (unsigned_abs-mul z (pos g)) ∙ ap unsigned_abs e) (mul-dvd-mul_right k h g)

  coprime : IsGcd (unsigned_abs n) (unsigned_abs d) 1
  coprime = (
    one-dvd (unsigned_abs n),
    one-dvd (unsigned_abs d),
    λ k p q. dvd_of_mul-dvd-mul_right k some
        (subst (λ m. k * g ∣ m) (sym (one-mul g)) (is.2 (k * g) (below k n num over p) (below k d den under q))),
  )

pub quotient : (num den : ℤ) → (pos 0) <ℤ den → Quotient num den
quotient num den positive =
    let g = gcd_of (unsigned_abs num) (unsigned_abs den) in
    let is = gcd_of_is (unsigned_abs num) (unsigned_abs den) in
    let least : 0 < unsigned_abs den = omega (arith, ints, positive) in
    let some : 0 < g = pos_of_dvd_of_pos is.1 least in
    let n = int_div num (pos g) in
    let d = int_div den (pos g) in
    let over : n *ℤ pos g ≡ num = quot_exact num (pos g) is.0 in
    let under : d *ℤ pos g ≡ den = quot_exact den (pos g) is.1 in
    record {
      value = record { num = n; den = d };
      positive = positive_factor d (pos g) (subst (λ z. (pos 0) <ℤ z) (sym under) positive) (omega (arith, ints, some));
      coprime = coprime num den n d g some is over under;
      same = turn n d (pos g) over under;
    }
  where
    turn : (n d g : ℤ) → n *ℤ g ≡ num → d *ℤ g ≡ den → n *ℤ den ≡ num *ℤ d
    turn n d g e f = rw (sym e, sym f) (simp spread (omega (arith, ints)))
