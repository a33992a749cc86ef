use Rattle.std.proofs.Common.{rules, ◌≡◌, ◌<◌, arith, sym, ◌∙◌, pos, length, get_or, FitsSigned, Ok}
use Rattle.std.proofs.lemmas.Int.{to_z-of_z}
use Rattle.std.specs.Int.{w128}
use Rattle.zr_base.specs.Steps.{cross_of}
use Rattle.zr_base.proofs.CrossLaws.{cross_ok}
use Rattle.zr_simplex.specs.Programs.{numbers}
use Rattle.zr_simplex.proofs.Divide.{narrow_more}
use Rattle.zr_simplex.proofs.Subtract.{crossed_more, greatest_set, later_more}
use Rattle.zr_simplex.proofs.row.subtract.Goals as goal

pub loop-place-preserved : goal.loop-place-preserved
loop-place-preserved c =
    let i = c.loop-place.place in
    let row = c.loop-place.row in
    let inv = c.loop-place.invariant in
    let b : FitsSigned w128 c.args.by = search rules in
    let l : FitsSigned w128 c.args.less = search rules in
    let x : FitsSigned w128 (get_or row i (pos 0)) = search rules in
    let y : FitsSigned w128 (get_or c.args.pivot.now i (pos 0)) = search rules in
    let n : FitsSigned w128 c.in-Ok.number = search rules in
    let below : i < length row = omega (arith, c.loop-place.auto.row, c.loop-place-test.true) in
    let step : cross_of (c.args.by, numbers row i) (c.args.less, numbers c.args.pivot.now i) ≡ Ok c.in-Ok.number = sym (simp to_z-of_z at c.difference.ensures) ∙ c.in-Ok.is in
    let narrow = (cross_ok (c.args.by, numbers row i) (c.args.less, numbers c.args.pivot.now i) c.in-Ok.number (sym step)).1 in
    simp to_z-of_z (record {
      done = crossed_more row c.args.row.now c.args.pivot.now c.args.by c.args.less i c.in-Ok.number below (simp to_z-of_z at inv.done) inv.left step;
      left = later_more row c.args.row.now i c.in-Ok.number inv.left;
      greatest = greatest_set row i c.loop-place.common c.with_number-common.result c.in-Ok.number below inv.greatest (simp to_z-of_z at c.with_number-common.ensures);
      narrow = narrow_more row i c.in-Ok.number below inv.narrow narrow;
    })
