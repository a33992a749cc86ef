-- The tests of numbers in a tree, by comparisons.
use Rattle.std.proofs.Common.{◌≡◌, ℤ, pos, Bool, true, false, refl, arith}
use Rattle.std.specs.Prelude.{◌&&◌, ◌||◌, not, int_le}
use Rattle.std.proofs.lemmas.Int.{ints}
use Rattle.zr_form.specs.Bounds.{is_narrow}
use Rattle.zr_form.proofs.Words.{both_true}
use Rattle.zr_tree.specs.Form.{greatest_split, least_split}
use Rattle.zr_lines.specs.Fits.{is_at, is_scale}
use Rattle.zr_lines.proofs.Limits.{narrow_tells}

fails : (b : Bool) → (b && false) ≡ false
fails true = refl
fails false = refl

pub at_narrow : (z : ℤ) → is_at true z ≡ true → is_narrow true z ≡ true
at_narrow z e =
    let h = both_true (int_le least_split z) (int_le z greatest_split) e in
    narrow_tells z (omega (arith, ints, h))

pub at_below : (z : ℤ) → int_le least_split z ≡ false → is_at true z ≡ false
at_below z e = rw e refl

pub at_above : (z : ℤ) → int_le z greatest_split ≡ false → is_at true z ≡ false
at_above z e = rw e (fails (int_le least_split z))

pub at_within : (z : ℤ) → int_le least_split z ≡ true → int_le z greatest_split ≡ true → is_at true z ≡ true
at_within z e f = rw (e, f) refl

-- a scale is narrow and passes this
abbrev fits_scale : Bool → ℤ → Bool
fits_scale refuting z = int_le (pos 0) z && (not refuting || int_le z (pos 0))

pub scale_narrow : (refuting : Bool) (z : ℤ) → is_scale true refuting z ≡ true → is_narrow true z ≡ true
scale_narrow refuting z e = (both_true (is_narrow true z) (fits_scale refuting z) e).0

pub scale_below : (refuting : Bool) (z : ℤ) → int_le (pos 0) z ≡ false → is_scale true refuting z ≡ false
scale_below refuting z e = rw e (fails (is_narrow true z))

pub scale_above : (refuting : Bool) (z : ℤ) → int_le (pos 0) z ≡ true → refuting ≡ true → int_le z (pos 0) ≡ false → is_scale true refuting z ≡ false
scale_above refuting z e f g = rw (e, f, g) (fails (is_narrow true z))

pub scale_level : (refuting : Bool) (z : ℤ) → is_narrow true z ≡ true → int_le (pos 0) z ≡ true → refuting ≡ true → int_le z (pos 0) ≡ true → is_scale true refuting z ≡ true
scale_level refuting z n e f g = rw (n, e, f, g) refl

pub scale_free : (refuting : Bool) (z : ℤ) → is_narrow true z ≡ true → int_le (pos 0) z ≡ true → refuting ≡ false → is_scale true refuting z ≡ true
scale_free refuting z n e f = rw (n, e, f) refl
