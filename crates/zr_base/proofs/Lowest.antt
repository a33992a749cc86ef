-- A value has one fraction in lowest terms.
use Rattle.std.proofs.Common.{◌≡◌, ℕ, ◌*◌, ◌/◌, ◌<◌, arith, sym, ap, subst, ◌∙◌, pos, ◌*ℤ◌, ◌<ℤ◌, unsigned_abs, div-add-mod', one-mul}
use Rattle.std.proofs.Math.Nat.{mod-eq-zero_of_dvd, dvd-mul_left, dvd-mul_right, dvd_of_mul-dvd-mul_right, eq-one_of_dvd-one}
use Rattle.std.proofs.lemmas.Int.{ints, unsigned_abs-mul}
use Rattle.std.proofs.lemmas.Nat.Gcd.{dvd_antisymm}
use Rattle.std.specs.Int.{IsGcd, ◌∣◌}
use Rattle.zr_base.specs.Fractions.{Fraction, HaveSameCross}
use Rattle.zr_base.specs.Lowest.{IsLowest, gcd_of}
use Rattle.zr_base.proofs.Divisors.{cancel, nonneg_abs}
use Rattle.zr_base.proofs.Gcds.{gcd_of_is}
use Rattle.zr_base.proofs.Sames.{same_record}

exact : (g c : ℕ) → c ∣ g → g / c * c ≡ g
exact g c h = let z = mod-eq-zero_of_dvd c h in omega (arith, div-add-mod' g c, z)

-- a divisor of a product that shares nothing with one factor divides the other
pub divides_other : (a b c : ℕ) → 0 < c → IsGcd a b 1 → b ∣ a * c → b ∣ c
divides_other a b c positive coprime h =
    let g = gcd_of (a * c) (b * c) in
    let is = gcd_of_is (a * c) (b * c) in
    let e = exact g c (is.2 c (dvd-mul_left c a) (dvd-mul_left c b)) in
    let p = dvd_of_mul-dvd-mul_right (g / c) positive (subst (λ n. n ∣ a * c) (sym e) is.0) in
    let q = dvd_of_mul-dvd-mul_right (g / c) positive (subst (λ n. n ∣ b * c) (sym e) is.1) in
    let one = eq-one_of_dvd-one (coprime.2 (g / c) p q) in
    let same : g ≡ c = sym e ∙ ap (λ n. n * c) one ∙ one-mul c in
    subst (λ n. b ∣ n) same (is.2 b h (dvd-mul_right b c))

-- the lowest denominator of a value divides its others
pub divides : (f g : Fraction) → (pos 0) <ℤ g.den → IsGcd (unsigned_abs f.num) (unsigned_abs f.den) 1 → f.num *ℤ g.den ≡ g.num *ℤ f.den → unsigned_abs f.den ∣ unsigned_abs g.den
divides f g positive coprime e =
    let least : 0 < unsigned_abs g.den = omega (arith, ints, positive) in
    let s = sym (unsigned_abs-mul g.num f.den) ∙ ap unsigned_abs (sym e) ∙ unsigned_abs-mul f.num g.den in
    divides_other (unsigned_abs f.num) (unsigned_abs f.den) (unsigned_abs g.den) least coprime (subst (λ n. unsigned_abs f.den ∣ n) s (dvd-mul_left (unsigned_abs f.den) (unsigned_abs g.num)))

pub lowest_same : (f g : Fraction) → IsLowest f → IsLowest g → HaveSameCross f g → f ≡ g
lowest_same f g p q e =
    let a = divides f g q.ratio.positive p.coprime e in
    let b = divides g f p.ratio.positive q.coprime (sym e) in
    let den : f.den ≡ g.den = nonneg_abs f.den p.ratio.positive ∙ ap pos (dvd_antisymm a b) ∙ sym (nonneg_abs g.den q.ratio.positive) in
    let num : f.num ≡ g.num = cancel f.num g.num g.den q.ratio.positive (e ∙ ap (λ z. g.num *ℤ z) den) in
    same_record f g num den
