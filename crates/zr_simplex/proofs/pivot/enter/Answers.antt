use Rattle.std.proofs.Common.{rules, set, length, length-set, FitsSigned}
use Rattle.std.proofs.lemmas.Int.{to_z-of_z}
use Rattle.std.specs.Int.{w128}
use Rattle.zr_simplex.specs.Programs.{numbers}
use Rattle.zr_simplex.proofs.Divide.{greatest_one, narrow_more}
use Rattle.zr_simplex.proofs.pivot.enter.Goals as goal

pub reduce-requires-clause-narrow : goal.reduce-requires-clause-narrow
reduce-requires-clause-narrow c =
    let x : FitsSigned w128 c.args.number = search rules in
    simp to_z-of_z (narrow_more c.args.pivot.now c.args.own c.args.number c.requires.own c.requires.narrow c.requires.narrow_number)

pub reduce-requires-clause-greatest : goal.reduce-requires-clause-greatest
reduce-requires-clause-greatest c =
    let x : FitsSigned w128 c.args.number = search rules in
    let new = set c.args.pivot.now c.args.own c.args.number in
    simp (to_z-of_z, length-set) (greatest_one (length c.args.pivot.now) (numbers new) c.requires.primitive)
