use Rattle.std.proofs.Common.{rules, ◌≡◌, arith, ℤ, pos, neg_ℤ, ◌-ℤ◌, ◌*ℤ◌, FitsSigned}
use Rattle.std.proofs.lemmas.Int.{ints, to_z-of_z}
use Rattle.std.specs.Int.{w128}
use Rattle.std.specs.Ordering.{int_cmp}
use Rattle.zr_simplex.proofs.choose.compare_at_row.Goals as goal

from_zero : (x : ℤ) → pos 0 -ℤ x ≡ neg_ℤ x
from_zero x = omega (arith, ints)

pub returns : goal.returns
returns c =
    let a = c.number.result in
    let b = c.number-2.result in
    let d = c.number-3.result in
    let e = c.number-4.result in
    let f1 : FitsSigned w128 a = search rules in
    let f2 : FitsSigned w128 b = search rules in
    let f3 : FitsSigned w128 d = search rules in
    let f4 : FitsSigned w128 e = search rules in
    let g2 : FitsSigned w128 (neg_ℤ b) = search rules in
    let g4 : FitsSigned w128 (neg_ℤ e) = search rules in
    let order : c.compare_ratios.result ≡ int_cmp (a *ℤ neg_ℤ e) (d *ℤ neg_ℤ b) = simp (to_z-of_z, from_zero) at c.compare_ratios.ensures in
    rw (← c.number.ensures.value, ← c.number-2.ensures.value, ← c.number-3.ensures.value, ← c.number-4.ensures.value) order
