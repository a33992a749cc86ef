use Rattle.std.proofs.Common.{rules, length, ◌≡◌, ◌<◌, arith, pos, ◌*ℤ◌, get_or, FitsSigned}
use Rattle.std.proofs.lemmas.Int.{to_z-of_z}
use Rattle.std.specs.Int.{w128}
use Rattle.zr_simplex.specs.Programs.{numbers}
use Rattle.zr_simplex.proofs.Divide.{done_more, left_more, narrow_more}
use Rattle.zr_simplex.proofs.row.divide.Goals as goal

pub quotient-requires-clause-divides : goal.quotient-requires-clause-divides
quotient-requires-clause-divides c =
    let b : FitsSigned w128 c.args.by = search rules in
    let x : FitsSigned w128 (get_or c.loop-number.row c.loop-number.number-index (pos 0)) = search rules in
    let same = c.loop-number.invariant.left c.loop-number.number-index (omega arith) in
    let d = c.requires.divides c.loop-number.number-index (omega (arith, c.loop-number.auto.row, c.loop-number-test.true)) in
    simp to_z-of_z (rw (← same) at d)

pub loop-number-preserved : goal.loop-number-preserved
loop-number-preserved c =
    let b : FitsSigned w128 c.args.by = search rules in
    let x : FitsSigned w128 (get_or c.loop-number.row c.loop-number.number-index (pos 0)) = search rules in
    let q : FitsSigned w128 c.quotient.result = search rules in
    let below : c.loop-number.number-index < length c.loop-number.row = omega (arith, c.loop-number.auto.row, c.loop-number-test.true) in
    let e : c.quotient.result *ℤ c.args.by ≡ numbers c.loop-number.row c.loop-number.number-index = simp to_z-of_z at c.quotient.ensures.exact in
    let done = simp to_z-of_z at c.loop-number.invariant.done in
    simp to_z-of_z (record {
      done = done_more c.args.row.now c.loop-number.row c.args.by c.quotient.result c.loop-number.number-index below e done c.loop-number.invariant.left;
      left = left_more c.args.row.now c.loop-number.row c.args.by c.quotient.result c.loop-number.number-index below e c.loop-number.invariant.left;
      narrow = narrow_more c.loop-number.row c.loop-number.number-index c.quotient.result below c.loop-number.invariant.narrow c.quotient.ensures.narrow;
    })
