use Rattle.std.proofs.Common.{rules, ◌≡◌, arith, ◌*ℤ◌, ℤ, pos, length, unsigned_abs, FitsSigned}
use Rattle.std.proofs.lemmas.Int.{ints, to_z-of_z}
use Rattle.std.specs.Int.{w128}
use Rattle.zr_simplex.specs.Programs.{numbers}
use Rattle.zr_simplex.proofs.Bits.{bits_are}
use Rattle.zr_simplex.proofs.Divide.{apart_by, divides_each, primitive_if}
use Rattle.zr_simplex.proofs.row.reduce.Goals as goal

pub divide-requires-clause-divides : goal.divide-requires-clause-divides
divide-requires-clause-divides c =
    let b : FitsSigned w128 c.signed_divisor-by.result = search rules in
    simp to_z-of_z (divides_each (length c.args.row.now) (numbers c.args.row.now) (unsigned_abs c.signed_divisor-by.result) c.signed_divisor-by.ensures.greatest)

pub returns-then-by-ne1-clause-primitive : goal.returns-then-by-ne1-clause-primitive
returns-then-by-ne1-clause-primitive c =
    let b : FitsSigned w128 c.signed_divisor-by.result = search rules in
    let by = c.signed_divisor-by in
    let apart = apart_by (numbers c.args.row.now c.args.own) by.result c.requires.apart by.ensures.above by.ensures.below in
    primitive_if (length c.args.row.now) (numbers c.args.row.now) (numbers c.divide.new.row) by.result apart by.ensures.greatest (simp to_z-of_z at c.divide.ensures.exact)

times_one : (z by : ℤ) → by ≡ pos 1 → z *ℤ by ≡ z
times_one z by e = rw e (omega (arith, ints))

pub returns-else-by-ne1-clause-primitive : goal.returns-else-by-ne1-clause-primitive
returns-else-by-ne1-clause-primitive c =
    let b : FitsSigned w128 c.signed_divisor-by.result = search rules in
    let by = c.signed_divisor-by in
    let apart = apart_by (numbers c.args.row.now c.args.own) by.result c.requires.apart by.ensures.above by.ensures.below in
    let f = numbers c.args.row.now in
    primitive_if (length c.args.row.now) f f by.result apart by.ensures.greatest (λ j h. times_one (f j) by.result (bits_are by.result 1 b (omega arith) c.if-by-ne1.false))
