use Rattle.std.proofs.Common.{arith, int_div, refl, FitsSigned}
use Rattle.std.proofs.lemmas.Int.{ints, quot_is, quot_fits, to_z-of_z}
use Rattle.std.specs.Int.{w128, w64}
use Rattle.zr_base.proofs.Divisors.{quot_exact}
use Rattle.zr_base.proofs.euclid.divided.Goals as goal

pub returns-clause-exact : goal.returns-clause-exact
returns-clause-exact c =
    let a = c.args.a in
    let by = c.args.by in
    rw (quot_is w128 a by c.ranges.a c.ranges.by (quot_fits w128 a by c.ranges.a c.requires.positive)) (quot_exact a by c.requires.divides)

pub returns-then-is_short-2-clause-value : goal.returns-then-is_short-2-clause-value
returns-then-is_short-2-clause-value c =
    let a = c.args.a in
    let by = c.args.by in
    let short_a : FitsSigned w64 a = omega (arith, ints, c.is_short.ensures c.if-is_short.true) in
    let short_by : FitsSigned w64 by = omega (arith, ints, c.is_short-then-is_short.ensures c.if-is_short-2.true) in
    let short = quot_fits w64 a by short_a c.requires.positive in
    let fits = quot_fits w128 a by c.ranges.a c.requires.positive in
    simp (to_z-of_z w128 a c.ranges.a, to_z-of_z w128 by c.ranges.by, to_z-of_z w64 a short_a, to_z-of_z w64 by short_by, to_z-of_z w64 (int_div a by) short, to_z-of_z w128 (int_div a by) fits) refl

pub returns-then-is_short-2-clause-exact : goal.returns-then-is_short-2-clause-exact
returns-then-is_short-2-clause-exact c =
    let a = c.args.a in
    let by = c.args.by in
    let short_a : FitsSigned w64 a = omega (arith, ints, c.is_short.ensures c.if-is_short.true) in
    let short_by : FitsSigned w64 by = omega (arith, ints, c.is_short-then-is_short.ensures c.if-is_short-2.true) in
    let short = quot_fits w64 a by short_a c.requires.positive in
    let fits = quot_fits w128 a by c.ranges.a c.requires.positive in
    simp (to_z-of_z w128 a c.ranges.a, to_z-of_z w128 by c.ranges.by, to_z-of_z w64 a short_a, to_z-of_z w64 by short_by, to_z-of_z w64 (int_div a by) short, to_z-of_z w128 (int_div a by) fits) (quot_exact a by c.requires.divides)
