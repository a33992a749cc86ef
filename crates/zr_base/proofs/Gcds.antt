-- Euclid's steps give the greatest common divisor, and what is left without it is in lowest terms.
use Rattle.std.proofs.Common.{ℕ, zero, suc, ◌%◌, ◌<◌, arith, refl}
use Rattle.std.proofs.lemmas.Nat.Gcd.{IsGcd-from_mod, IsGcd-from_zero}
use Rattle.std.specs.Int.{IsGcd}
use Rattle.zr_base.specs.Lowest.{gcd_of, gcd_within}

-- each remainder is below its divisor, so so many steps are enough
gcd_within_is : (n a b : ℕ) → b < n → IsGcd a b (gcd_within n a b)
gcd_within_is zero a b h = absurd (omega arith)
gcd_within_is (suc n) a zero h = IsGcd-from_zero a zero refl
gcd_within_is (suc n) a (suc b) h =
    IsGcd-from_mod a (suc b) (gcd_within n (suc b) (a % suc b)) (gcd_within_is n (suc b) (a % suc b) (omega arith))

pub gcd_of_is : (a b : ℕ) → IsGcd a b (gcd_of a b)
unfolding gcd_of
gcd_of_is a b = gcd_within_is (suc b) a b (omega arith)
