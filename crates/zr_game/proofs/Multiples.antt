-- Whole values.
use Rattle.std.proofs.Common.{◌≡◌, ◌%◌, ap, sym, subst, ◌∙◌, ℤ, unsigned_abs, int_div}
use Rattle.std.proofs.lemmas.Int.{unsigned_abs-mul}
use Rattle.std.proofs.Math.Nat.{mod-eq-zero_of_dvd, dvd-mul_left}
use Rattle.std.proofs.lemmas.Nat.Gcd.{dvd_of_mod-eq-zero}
use Rattle.std.specs.Int.{◌∣◌}
use Rattle.zr_base.proofs.Divisors.{quot_exact}
use Rattle.zr_game.specs.Feasible.{IsMultiple}

pub multiple_of : (num den : ℤ) → unsigned_abs num % unsigned_abs den ≡ 0 → IsMultiple num den
multiple_of num den e = (int_div num den, sym (quot_exact num den (dvd_of_mod-eq-zero (unsigned_abs den) e)))

pub of_multiple : (num den : ℤ) → IsMultiple num den → unsigned_abs num % unsigned_abs den ≡ 0
of_multiple num den h =
    mod-eq-zero_of_dvd (unsigned_abs den) (subst (λ n. unsigned_abs den ∣ n) (sym (unsigned_abs-mul h.0 den) ∙ ap unsigned_abs (sym h.1)) (dvd-mul_left (unsigned_abs den) (unsigned_abs h.0)))
