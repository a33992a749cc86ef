use Rattle.std.proofs.Common.{◌≢◌, ◌<◌, ◌^◌, ℤ, pos, negsuc, zero, suc, arith, refl, unsigned_abs}
use Rattle.std.proofs.Math.Nat.{le_of_dvd, pos_of_dvd_of_pos}
use Rattle.std.proofs.lemmas.Int.{ints, to_z_pos, to_z-of_z}
use Rattle.std.specs.Int.{w128, IsGcd}
use Rattle.zr_simplex.proofs.row.common.Goals as goal
use Rattle.zr_simplex.proofs.row.common.Goals.{After-gcd}

apart_positive : (z : ℤ) → z ≢ pos 0 → 0 < unsigned_abs z
apart_positive (pos zero) h = absurd (h refl)
apart_positive (pos (suc n)) h = omega (arith, ints)
apart_positive (negsuc n) h = omega (arith, ints)

gcd_of_args : (c : After-gcd) → IsGcd (unsigned_abs c.args.p) (unsigned_abs c.args.a) c.gcd.result
gcd_of_args c =
    rw (c.unsigned_abs.ensures.value, c.unsigned_abs-2.ensures.value, to_z-of_z w128 c.args.p c.ranges.p, to_z-of_z w128 c.args.a c.ranges.a) at c.gcd.ensures.gcd

bound : (c : After-gcd) → (0 < c.gcd.result) × (c.gcd.result < 2 ^ 127)
bound c =
    let positive = apart_positive c.args.p c.requires.apart in
    let g = gcd_of_args c in
    let least : 0 < c.gcd.result = pos_of_dvd_of_pos g.0 positive in
    omega (arith, le_of_dvd positive g.0, c.requires.narrow)

pub overflow_cast-result : goal.overflow_cast-result
overflow_cast-result c = let b = bound c in omega (arith, ints, b)

pub returns-clause-positive : goal.returns-clause-positive
returns-clause-positive c = let b = bound c in omega (arith, ints, b)

pub returns-clause-gcd : goal.returns-clause-gcd
returns-clause-gcd c = rw (to_z_pos w128 c.gcd.result (bound c).1) (gcd_of_args c)
