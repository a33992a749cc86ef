use Rattle.std.proofs.Common.{◌<◌, ◌^◌, arith, unsigned_abs, int_div, FitsSigned}
use Rattle.std.specs.Int.{w128}
use Rattle.std.proofs.lemmas.Int.{fits_signed_from_abs, to_z-of_z}
use Rattle.zr_box_search.proofs.Bounding.{quotient_up}
use Rattle.zr_box_search.proofs.better.quotient.Goals as goal

pub returns-clause-narrow : goal.returns-clause-narrow
returns-clause-narrow c =
    let f : FitsSigned w128 c.args.num = c.ranges.num in
    let g : FitsSigned w128 c.args.den = c.ranges.den in
    let k = quotient_up c.args.num c.args.den c.requires.den in
    let n = c.requires.narrow in
    let l : unsigned_abs (int_div c.args.num c.args.den) < 2 ^ 127 = omega (arith, k, n) in
    let h : FitsSigned w128 (int_div c.args.num c.args.den) =
    fits_signed_from_abs w128 (int_div c.args.num c.args.den) l in
    simp to_z-of_z l
