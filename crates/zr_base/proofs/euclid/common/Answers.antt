use Rattle.std.proofs.Common.{◌<◌, ◌^◌, ◌≡◌, arith, refl, unsigned_abs}
use Rattle.std.proofs.lemmas.Int.{ints, to_z_pos, to_z-of_z}
use Rattle.std.proofs.Math.Nat.{le_of_dvd, pos_of_dvd_of_pos}
use Rattle.std.specs.Int.{w128, IsGcd}
use Rattle.zr_base.specs.Lowest.{gcd_of}
use Rattle.zr_base.proofs.euclid.common.Goals as goal
use Rattle.zr_base.proofs.euclid.common.Goals.{After-gcd}

gcd_of_args : (c : After-gcd) → IsGcd (unsigned_abs c.args.a) (unsigned_abs c.args.b) c.gcd.result
gcd_of_args c =
    rw (c.unsigned_abs.ensures.value, c.unsigned_abs-2.ensures.value, to_z-of_z w128 c.args.a c.ranges.a, to_z-of_z w128 c.args.b c.ranges.b) at c.gcd.ensures.gcd

value_of_args : (c : After-gcd) → c.gcd.result ≡ gcd_of (unsigned_abs c.args.a) (unsigned_abs c.args.b)
value_of_args c =
    rw (c.unsigned_abs.ensures.value, c.unsigned_abs-2.ensures.value, to_z-of_z w128 c.args.a c.ranges.a, to_z-of_z w128 c.args.b c.ranges.b) at c.gcd.ensures.value

bound : (c : After-gcd) → (0 < c.gcd.result) × (c.gcd.result < 2 ^ 127)
bound c =
    let positive : 0 < unsigned_abs c.args.b = omega (arith, ints, c.requires) in
    let range = c.ranges.b in
    let narrow : unsigned_abs c.args.b < 2 ^ 127 = omega (arith, ints, range, c.requires) in
    let gcd = gcd_of_args c in
    let least : 0 < c.gcd.result = pos_of_dvd_of_pos gcd.1 positive in
    (least, omega (arith, le_of_dvd positive gcd.1, narrow))

pub overflow_cast-result : goal.overflow_cast-result
overflow_cast-result c = let b = bound c in omega (arith, ints, b)

pub returns-clause-positive : goal.returns-clause-positive
returns-clause-positive c = let b = bound c in omega (arith, ints, b)

pub returns-clause-gcd : goal.returns-clause-gcd
returns-clause-gcd c = rw (to_z_pos w128 c.gcd.result (bound c).1) (gcd_of_args c)

pub returns-clause-value : goal.returns-clause-value
returns-clause-value c = rw (to_z_pos w128 c.gcd.result (bound c).1, value_of_args c) refl
