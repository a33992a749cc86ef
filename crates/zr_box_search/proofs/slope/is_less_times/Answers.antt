use Rattle.std.proofs.Common.{◌≡◌, arith, pos, int_lt, true, ◌<ℤ◌, FitsSigned}
use Rattle.std.specs.Int.{w64}
use Rattle.std.proofs.lemmas.Int.{ints, to_z-of_z}
use Rattle.zr_boxes.proofs.Ranged.{less_below}
use Rattle.zr_box_search.proofs.slope.is_less_times.Goals as goal

pub returns-then-number-lt0 : goal.returns-then-number-lt0
returns-then-number-lt0 c =
    let n : FitsSigned w64 c.args.number = c.ranges.number in
    let a : FitsSigned w64 c.args.a = c.ranges.a in
    let b : FitsSigned w64 c.args.b = c.ranges.b in
    let e : int_lt c.args.number (pos 0) ≡ true = simp to_z-of_z at c.if-number-lt0.true in
    let h : c.args.number <ℤ (pos 0) = omega (arith, ints, e) in
    simp to_z-of_z (less_below c.args.number c.args.a c.args.b h)
