-- A fraction in lowest terms that is a whole number has the denominator 1.
use Rattle.std.proofs.Common.{◌≡◌, sym, ap, subst, ◌∙◌, ℤ, pos, ◌*ℤ◌, ◌<ℤ◌, unsigned_abs}
use Rattle.std.proofs.lemmas.Int.{unsigned_abs-mul}
use Rattle.std.proofs.Math.Nat.{dvd-mul_left, eq-one_of_dvd-one}
use Rattle.std.proofs.lemmas.Nat.Gcd.{dvd_refl}
use Rattle.std.specs.Int.{IsGcd, ◌∣◌}
use Rattle.zr_base.proofs.Divisors.{nonneg_abs}

pub whole_den : (n m k : ℤ) → (pos 0) <ℤ m → n ≡ k *ℤ m → IsGcd (unsigned_abs n) (unsigned_abs m) 1
    → m ≡ pos 1
whole_den n m k positive e coprime =
    let divides : unsigned_abs m ∣ unsigned_abs n =
    subst (λ z. unsigned_abs m ∣ z) (sym (unsigned_abs-mul k m) ∙ ap unsigned_abs (sym e))
    (dvd-mul_left (unsigned_abs m) (unsigned_abs k)) in
    nonneg_abs m positive
    ∙ ap pos (eq-one_of_dvd-one (coprime.2 (unsigned_abs m) divides (dvd_refl (unsigned_abs m))))
