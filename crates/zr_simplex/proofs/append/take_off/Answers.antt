use Rattle.std.proofs.Common.{rules, ◌≡◌, ◌-◌, ◌<◌, ◌≤◌, arith, sym, ap, ◌∙◌, ℤ, pos, length, get_or, get_or-set_same, FitsSigned, Ok, ◌-ℤ◌, ◌*ℤ◌}
use Rattle.std.proofs.lemmas.Int.{ints, to_z-of_z}
use Rattle.std.specs.Int.{w128}
use Rattle.zr_base.specs.Steps.{cross_of}
use Rattle.zr_base.proofs.CrossLaws.{cross_ok}
use Rattle.zr_simplex.specs.Programs.{numbers}
use Rattle.zr_simplex.specs.Tableaus.{form_of}
use Rattle.zr_simplex.proofs.Appending.{taken_more}
use Rattle.zr_simplex.proofs.Divide.{narrow_more}
use Rattle.zr_simplex.proofs.Subtract.{later_more}
use Rattle.zr_simplex.proofs.append.take_off.Goals as goal

pub loop-column-preserved : goal.loop-column-preserved
loop-column-preserved c =
    let i = c.loop-column.column in
    let row = c.loop-column.made in
    let inv = c.loop-column.invariant in
    let f = form_of c.args.tableau.now c.args.row in
    let b : FitsSigned w128 c.args.by = search rules in
    let l : FitsSigned w128 c.args.less = search rules in
    let x : FitsSigned w128 (get_or row i (pos 0)) = search rules in
    let y : FitsSigned w128 c.number.result = search rules in
    let n : FitsSigned w128 c.in-Ok.number = search rules in
    let below : i < length row = omega (arith, c.loop-column.auto.made, c.loop-column-test.true) in
    let step : cross_of (c.args.by, numbers row i) (c.args.less, f i) ≡ Ok c.in-Ok.number = rw (← c.number.ensures.value) (sym (simp to_z-of_z at c.difference.ensures) ∙ c.in-Ok.is) in
    let made = cross_ok (c.args.by, numbers row i) (c.args.less, f i) c.in-Ok.number (sym step) in
    simp to_z-of_z (record {
      width = inv.width;
      done = taken_more row c.args.made.now c.args.by c.args.less f i c.in-Ok.number below (simp to_z-of_z at inv.done) inv.left made.0;
      left = later_more row c.args.made.now i c.in-Ok.number inv.left;
      narrow = narrow_more row i c.in-Ok.number below inv.narrow made.1;
    })

pub returns-clause-narrow : goal.returns-clause-narrow
returns-clause-narrow c =
    let row = c.loop-column.made in
    let i = length c.args.made.now - 1 in
    let v = c.in-Ok-difference.number in
    let b : FitsSigned w128 c.args.by = search rules in
    let l : FitsSigned w128 c.args.less = search rules in
    let x : FitsSigned w128 (get_or row i (pos 0)) = search rules in
    let n : FitsSigned w128 v = search rules in
    let step : cross_of (c.args.by, numbers row i) (c.args.less, pos 0) ≡ Ok v = sym (simp to_z-of_z at c.difference-2.ensures) ∙ c.in-Ok-difference.is in
    let made = cross_ok (c.args.by, numbers row i) (c.args.less, pos 0) v (sym step) in
    simp to_z-of_z (narrow_more row i v (omega (arith, c.loop-column.auto.made, c.requires.len)) c.loop-column.invariant.narrow made.1)

no_less : (v by y less : ℤ) → v ≡ by *ℤ y -ℤ less *ℤ pos 0 → v ≡ by *ℤ y
no_less v by y less e = omega (arith, ints, e)

pub returns-clause-own : goal.returns-clause-own
returns-clause-own c =
    let row = c.loop-column.made in
    let init = c.args.made.now in
    let i = length init - 1 in
    let v = c.in-Ok-difference.number in
    let b : FitsSigned w128 c.args.by = search rules in
    let l : FitsSigned w128 c.args.less = search rules in
    let x : FitsSigned w128 (get_or row i (pos 0)) = search rules in
    let n : FitsSigned w128 v = search rules in
    let step : cross_of (c.args.by, numbers row i) (c.args.less, pos 0) ≡ Ok v = sym (simp to_z-of_z at c.difference-2.ensures) ∙ c.in-Ok-difference.is in
    let made = cross_ok (c.args.by, numbers row i) (c.args.less, pos 0) v (sym step) in
    let width : c.args.tableau.now.width ≡ i = omega (arith, c.requires.len) in
    let end : c.loop-column.column ≤ i = omega (arith, c.loop-column.auto.column-end) in
    let same = c.loop-column.invariant.left i end in
    simp to_z-of_z (rw (width, get_or-set_same row i v (pos 0) (omega (arith, c.loop-column.auto.made, c.requires.len))) (no_less v c.args.by (numbers row i) c.args.less made.0 ∙ ap (λ z. c.args.by *ℤ z) same))
