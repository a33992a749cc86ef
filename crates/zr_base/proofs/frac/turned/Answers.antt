use Rattle.std.proofs.Common.{rules, arith, pos, ◌-ℤ◌, FitsSigned}
use Rattle.std.specs.Int.{w128}
use Rattle.std.proofs.lemmas.Int.{ints, to_z-of_z}
use Rattle.zr_base.proofs.Reduced.{reciprocal_below, reciprocal_above}
use Rattle.zr_base.proofs.frac.turned.Goals as goal

pub returns-then-num-lt0-clause-value : goal.returns-then-num-lt0-clause-value
returns-then-num-lt0-clause-value c =
    let n : FitsSigned w128 c.args.num = search rules in
    let d : FitsSigned w128 c.args.den = search rules in
    let m : FitsSigned w128 (pos 0 -ℤ c.args.num) = omega (arith, ints, c.requires.ratio.narrow_num) in
    let e : FitsSigned w128 (pos 0 -ℤ c.args.den) = omega (arith, ints, c.requires.ratio.narrow_den) in
    simp to_z-of_z (reciprocal_below c.args.num c.args.den (simp to_z-of_z at c.if-num-lt0.true))

pub returns-else-num-lt0-clause-value : goal.returns-else-num-lt0-clause-value
returns-else-num-lt0-clause-value c =
    let n : FitsSigned w128 c.args.num = search rules in
    let d : FitsSigned w128 c.args.den = search rules in
    simp to_z-of_z (reciprocal_above c.args.num c.args.den (simp to_z-of_z at c.if-num-lt0.false))
