use Rattle.std.proofs.Common.{rules, get_or, pos, set, length-set, arith, FitsSigned}
use Rattle.std.proofs.lemmas.Int.{to_z-of_z}
use Rattle.std.specs.Int.{w128}
use Rattle.zr_base.specs.Steps.{IsNarrow}
use Rattle.zr_simplex.specs.Programs.{numbers}
use Rattle.zr_simplex.proofs.Divide.{narrow_more}
use Rattle.zr_simplex.proofs.pivot.leave.Goals as goal

pub returns-clause-left : goal.returns-clause-left
returns-clause-left c =
    let x : FitsSigned w128 (get_or c.args.pivot.now c.args.own (pos 0)) = search rules in
    simp to_z-of_z

pub returns-clause-narrow : goal.returns-clause-narrow
returns-clause-narrow c =
    let xs = c.args.pivot.now in
    let own = c.args.own in
    let x : FitsSigned w128 (get_or xs own (pos 0)) = search rules in
    let zero : IsNarrow (pos 0) = omega arith in
    let there = c.requires.narrow own (pos 0) c.requires.own in
    let moved = set xs c.args.place (numbers xs own) in
    simp to_z-of_z (narrow_more moved own (pos 0) (omega (arith, length-set xs c.args.place (numbers xs own), c.requires.own)) (narrow_more xs c.args.place (numbers xs own) (omega (arith, c.requires.place, c.requires.own)) c.requires.narrow there) zero)
