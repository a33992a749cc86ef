use Rattle.std.proofs.Common.{rules, FitsSigned}
use Rattle.std.specs.Int.{w128}
use Rattle.std.proofs.lemmas.Int.{to_z-of_z}
use Rattle.zr_base.specs.Points.{IsPoint}
use Rattle.zr_tidy.proofs.Lowering.{lowered_form}
use Rattle.zr_tidy.proofs.point.without.Goals as goal

pub divided-den-requires-clause-divides : goal.divided-den-requires-clause-divides
divided-den-requires-clause-divides c =
    let b : FitsSigned w128 c.args.by = c.ranges.by in
    let f : FitsSigned w128 c.den.result = search rules in
    simp to_z-of_z (rw c.den.ensures.value c.requires.divides.0)

pub numbers_without-requires-clause-divides : goal.numbers_without-requires-clause-divides
numbers_without-requires-clause-divides c =
    let b : FitsSigned w128 c.args.by = c.ranges.by in
    simp to_z-of_z c.requires.divides

pub unreachable-requires : goal.unreachable-requires
unreachable-requires c =
    let b : FitsSigned w128 c.args.by = c.ranges.by in
    let x = c.args.point.now in
    let by = c.args.by in
    let f : FitsSigned w128 c.den.result = search rules in
    let g : FitsSigned w128 c.divided-den.result = search rules in
    let den = rw c.den.ensures.value at (simp to_z-of_z at c.divided-den.ensures.value) in
    let num = simp to_z-of_z at c.in-Ok.ensures in
    let made : IsPoint c.in-Ok.num.items c.divided-den.result =
    rw (num, den) (lowered_form x by c.den.ensures.kept c.requires) in
    let valid = simp to_z-of_z at c.in-Err.ensures.valid in
    let h = valid.1 made in cc h
