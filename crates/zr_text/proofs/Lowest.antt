-- Whether a cost is in lowest terms.
use Rattle.std.proofs.Common.{◌≡◌, ℕ, Bool, true, false, ◌==◌, sym, refl, ap, ◌∙◌, ℤ}
use Rattle.std.specs.Prelude.{◌&&◌, ◌||◌, not, unsigned_abs}
use Rattle.std.proofs.lemmas.Bool.{eq-eqb, eqb-true}
use Rattle.std.proofs.Math.Nat.{eq-one_of_dvd-one}
use Rattle.std.specs.Int.{IsGcd}
use Rattle.zr_base.specs.Lowest.{gcd_of}
use Rattle.zr_base.proofs.Gcds.{gcd_of_is}
use Rattle.zr_base.specs.Steps.{IsNarrow}
use Rattle.zr_form.specs.Bounds.{is_narrow}
use Rattle.zr_text.specs.Fits.{is_lowest}
use Rattle.zr_lines.proofs.Limits.{both, narrow_tells}

pub lowest_told : (num den : ℤ) → IsNarrow num → IsNarrow den → is_lowest num den ≡ true → gcd_of (unsigned_abs num) (unsigned_abs den) ≡ 1
lowest_told num den n d e = eqb-true (gcd_of (unsigned_abs num) (unsigned_abs den)) 1 (sym (ap (λ (z : Bool). not z || gcd_of (unsigned_abs num) (unsigned_abs den) == 1) (both (is_narrow true num) (is_narrow true den) (narrow_tells num n) (narrow_tells den d))) ∙ e)

or_true : (a b : Bool) → b ≡ true → (a || b) ≡ true
or_true true b e = refl
or_true false b e = e

pub coprime_gcd : (a b : ℕ) → IsGcd a b 1 → gcd_of a b ≡ 1
coprime_gcd a b h = let is = gcd_of_is a b in eq-one_of_dvd-one (h.2 (gcd_of a b) is.0 is.1)

pub lowest_tells : (num den : ℤ) → gcd_of (unsigned_abs num) (unsigned_abs den) ≡ 1 → is_lowest num den ≡ true
lowest_tells num den e = or_true (not (is_narrow true num && is_narrow true den)) (gcd_of (unsigned_abs num) (unsigned_abs den) == 1) (eq-eqb (gcd_of (unsigned_abs num) (unsigned_abs den)) 1 e)
