-- The tests of numbers, and what they say.
use Rattle.std.proofs.Common.{◌≡◌, ℕ, ◌^◌, ◌<◌, Bool, true, false, sym, refl, subst, arith, ℤ, pos, ◌≤ℤ◌, ◌<ℤ◌, List}
use Rattle.std.specs.Prelude.{◌&&◌, ◌||◌, not, int_le, unsigned_abs}
use Rattle.std.specs.List.{All, AllByRecursion}
use Rattle.std.proofs.lemmas.Bool.{lt-ltb, ltb-true}
use Rattle.std.proofs.lemmas.Int.{ints}
use Rattle.std.proofs.lemmas.List.Elements.{All-from_recursion, recursion_from_All}
use Rattle.zr_base.specs.Steps.{IsNarrow}
use Rattle.zr_cert.specs.Forms.{IsWeight}
use Rattle.zr_form.specs.Bounds.{Passes, is_index, is_narrow, is_positive}
use Rattle.zr_form.proofs.Words.{both_true}
use Rattle.zr_tree.specs.Form.{greatest_split, least_split}
use Rattle.zr_lines.specs.Fits.{is_at, is_scale}
use Rattle.zr_lines.proofs.Looser.{each}

pub both : (a b : Bool) → a ≡ true → b ≡ true → (a && b) ≡ true
both true b e f = f
both false b e f = absurd cc

pub le_told : (a b : ℤ) → int_le a b ≡ true → a ≤ℤ b
le_told a b e = omega (arith, ints)

pub le_tells : (a b : ℤ) → a ≤ℤ b → int_le a b ≡ true
le_tells a b h = by (int_le a b) refl
  where
    by : (t : Bool) → int_le a b ≡ t → t ≡ true
    by true e = refl
    by false e = absurd (omega (arith, ints))

pub narrow_told : (z : ℤ) → Passes (is_narrow true) z → IsNarrow z
narrow_told z p = ltb-true (unsigned_abs z) (2 ^ 127) p

pub narrow_tells : (z : ℤ) → IsNarrow z → Passes (is_narrow true) z
narrow_tells z h = lt-ltb (unsigned_abs z) (2 ^ 127) h

pub index_told : (n : ℕ) → Passes (is_index true) n → n < 2 ^ 32
index_told n p = ltb-true n (2 ^ 32) p

pub index_tells : (n : ℕ) → n < 2 ^ 32 → Passes (is_index true) n
index_tells n h = lt-ltb n (2 ^ 32) h

pub weight_told : (z : ℤ) → Passes (is_positive true) z → IsWeight z
weight_told z p = let h = both_true (is_narrow true z) (int_le (pos 1) z) p in (le_told (pos 1) z h.1, narrow_told z h.0)

pub weight_tells : (z : ℤ) → IsWeight z → Passes (is_positive true) z
weight_tells z h = both (is_narrow true z) (int_le (pos 1) z) (narrow_tells z h.1) (le_tells (pos 1) z h.0)

pub above_zero : (z : ℤ) → (pos 1) ≤ℤ z → (pos 0) <ℤ z
above_zero z h = omega (arith, ints)

pub from_one : (z : ℤ) → (pos 0) <ℤ z → (pos 1) ≤ℤ z
from_one z h = omega (arith, ints)

pub at_told : (z : ℤ) → Passes (is_at true) z → (least_split ≤ℤ z) × (z ≤ℤ greatest_split)
at_told z p =
    let h = both_true (int_le least_split z) (int_le z greatest_split) p in
    (le_told least_split z h.0, le_told z greatest_split h.1)

pub at_tells : (z : ℤ) → least_split ≤ℤ z → z ≤ℤ greatest_split → Passes (is_at true) z
at_tells z low high =
    both (int_le least_split z) (int_le z greatest_split) (le_tells least_split z low) (le_tells z greatest_split high)

pub scale_told : (refuting : Bool) (z : ℤ) → Passes (is_scale true refuting) z → ((pos 0) ≤ℤ z) × IsNarrow z
scale_told refuting z p =
    let h = both_true (is_narrow true z) (int_le (pos 0) z && (not refuting || int_le z (pos 0))) p in
    let k = both_true (int_le (pos 0) z) (not refuting || int_le z (pos 0)) h.1 in
    (le_told (pos 0) z k.0, narrow_told z h.0)

pub zero_scale_told : (z : ℤ) → Passes (is_scale true true) z → z ≡ pos 0
zero_scale_told z p =
    let h = both_true (is_narrow true z) (int_le (pos 0) z && int_le z (pos 0)) p in
    let k = both_true (int_le (pos 0) z) (int_le z (pos 0)) h.1 in
    let low : (pos 0) ≤ℤ z = le_told (pos 0) z k.0 in
    let high : z ≤ℤ (pos 0) = le_told z (pos 0) k.1 in
    omega (arith, ints)

pub scale_tells : (z : ℤ) → (pos 0) ≤ℤ z → IsNarrow z → Passes (is_scale true false) z
scale_tells z low h = both (is_narrow true z) (int_le (pos 0) z && true) (narrow_tells z h) (both (int_le (pos 0) z) true (le_tells (pos 0) z low) refl)

pub zero_scale_tells : (z : ℤ) → z ≡ pos 0 → Passes (is_scale true true) z
zero_scale_tells z e = subst (Passes (is_scale true true)) (sym e) refl

-- ---- each of a list

pub all_told : {X : Type 0} (P Q : X → Type 0) → ((x : X) → P x → Q x) → (xs : List X) → AllByRecursion P xs → All Q xs
all_told P Q to xs f = All-from_recursion Q xs (each P Q to xs f)

pub all_tells : {X : Type 0} (P Q : X → Type 0) → ((x : X) → P x → Q x) → (xs : List X) → All P xs → AllByRecursion Q xs
all_tells P Q to xs f = each P Q to xs (recursion_from_All P xs f)
