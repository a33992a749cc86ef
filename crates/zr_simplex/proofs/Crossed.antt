-- Steps that change nothing.
use Rattle.std.proofs.Common.{◌≡◌, refl, arith, ℤ, pos, ◌-ℤ◌, ◌*ℤ◌, Some, Ok}
use Rattle.std.proofs.Math.IntN.{*ℤ-zero}
use Rattle.std.proofs.lemmas.Int.{ints}
use Rattle.std.proofs.lemmas.Bool.Decides.{nat_tests}
use Rattle.zr_base.specs.Steps.{cross_of, narrow, narrow_cross, IsNarrow}

narrow_is : (z : ℤ) → IsNarrow z → narrow z ≡ Some z
unfolding narrow
narrow_is z h = grind (arith, nat_tests)

-- a step whose first product is `own`, and whose second one is 0
pub cross_same : (by own less other : ℤ) → IsNarrow own → by *ℤ own ≡ own → other ≡ pos 0 → cross_of (by, own) (less, other) ≡ Ok own
unfolding cross_of narrow_cross
cross_same by own less other h e z =
    let zero : IsNarrow (pos 0) = omega arith in
    let back : own -ℤ pos 0 ≡ own = omega (arith, ints) in
    rw (z, e, *ℤ-zero less, narrow_is own h, narrow_is (pos 0) zero, back, narrow_is own h) refl
