use Rattle.std.proofs.Common.{length, ◌<◌, ◌^◌, arith, pos, ◌-ℤ◌, FitsSigned}
use Rattle.std.proofs.lemmas.Int.{ints, to_z_pos, to_z-of_z}
use Rattle.std.specs.Int.{w128}
use Rattle.zr_simplex.specs.Programs.{numbers}
use Rattle.zr_simplex.proofs.Divide.{abs_negated, greatest_bound}
use Rattle.zr_simplex.proofs.row.signed_divisor.Goals as goal
use Rattle.zr_simplex.proofs.row.signed_divisor.Goals.{Start}

bound : (c : Start) → (0 < c.args.common) × (c.args.common < 2 ^ 127)
bound c =
    greatest_bound (length c.args.row.now) (numbers c.args.row.now) c.args.common c.args.own c.requires.greatest c.requires.own c.requires.apart c.requires.narrow

pub overflow_cast-divisor : goal.overflow_cast-divisor
overflow_cast-divisor c =
    let b = bound (goal.at.overflow_cast-divisor c).Start in
    omega (arith, ints, b)

pub overflow_sub-result : goal.overflow_sub-result
overflow_sub-result c =
    let b = bound (goal.at.overflow_sub-result c).Start in
    rw (to_z_pos w128 c.args.common b.1) (omega (arith, ints, b))

pub returns-then-row-own-lt0-clause-narrow : goal.returns-then-row-own-lt0-clause-narrow
returns-then-row-own-lt0-clause-narrow c =
    let b = bound (goal.at.returns-then-row-own-lt0-clause-narrow c).Start in
    let f : FitsSigned w128 (pos 0 -ℤ pos c.args.common) = omega (arith, ints, b) in
    rw (to_z_pos w128 c.args.common b.1) (simp to_z-of_z (omega (arith, ints, b)))

pub returns-then-row-own-lt0-clause-greatest : goal.returns-then-row-own-lt0-clause-greatest
returns-then-row-own-lt0-clause-greatest c =
    let b = bound (goal.at.returns-then-row-own-lt0-clause-greatest c).Start in
    let f : FitsSigned w128 (pos 0 -ℤ pos c.args.common) = omega (arith, ints, b) in
    rw (to_z_pos w128 c.args.common b.1) (simp (to_z-of_z, abs_negated) c.requires.greatest)

pub returns-then-row-own-lt0-clause-below : goal.returns-then-row-own-lt0-clause-below
returns-then-row-own-lt0-clause-below c h =
    let b = bound (goal.at.returns-then-row-own-lt0-clause-below c).Start in
    let f : FitsSigned w128 (pos 0 -ℤ pos c.args.common) = omega (arith, ints, b) in
    rw (to_z_pos w128 c.args.common b.1) (simp to_z-of_z (omega (arith, ints, b)))

pub returns-else-row-own-lt0-clause-narrow : goal.returns-else-row-own-lt0-clause-narrow
returns-else-row-own-lt0-clause-narrow c =
    let b = bound (goal.at.returns-else-row-own-lt0-clause-narrow c).Start in
    rw (to_z_pos w128 c.args.common b.1) (omega (arith, ints, b))

pub returns-else-row-own-lt0-clause-greatest : goal.returns-else-row-own-lt0-clause-greatest
returns-else-row-own-lt0-clause-greatest c =
    let b = bound (goal.at.returns-else-row-own-lt0-clause-greatest c).Start in
    rw (to_z_pos w128 c.args.common b.1) c.requires.greatest

pub returns-else-row-own-lt0-clause-above : goal.returns-else-row-own-lt0-clause-above
returns-else-row-own-lt0-clause-above c h =
    let b = bound (goal.at.returns-else-row-own-lt0-clause-above c).Start in
    rw (to_z_pos w128 c.args.common b.1) (omega (arith, ints, b))
