use Rattle.std.proofs.Common.{rules, arith, pos, ◌-ℤ◌, FitsSigned}
use Rattle.std.proofs.lemmas.Int.{ints, to_z-of_z}
use Rattle.std.specs.Int.{w128}
use Rattle.zr_simplex.proofs.Divide.{abs_negated}
use Rattle.zr_simplex.proofs.row.quotient.Goals as goal

pub divided-requires-clause-divides : goal.divided-requires-clause-divides
divided-requires-clause-divides c =
    let a : FitsSigned w128 c.args.a = search rules in
    let b : FitsSigned w128 c.args.by = search rules in
    let x : FitsSigned w128 (pos 0 -ℤ c.args.a) = omega (arith, ints, c.requires.narrow) in
    let y : FitsSigned w128 (pos 0 -ℤ c.args.by) = omega (arith, ints, c.requires.narrow_by) in
    simp (to_z-of_z, abs_negated) c.requires.divides

pub divided-requires-else-by-lt0-clause-divides : goal.divided-requires-else-by-lt0-clause-divides
divided-requires-else-by-lt0-clause-divides c =
    let a : FitsSigned w128 c.args.a = search rules in
    let b : FitsSigned w128 c.args.by = search rules in
    simp to_z-of_z c.requires.divides
