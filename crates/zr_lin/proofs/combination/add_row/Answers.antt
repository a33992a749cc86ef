use Rattle.std.proofs.Common.{rules, arith, ◌≡◌, sym, ◌∙◌, pos, get_or, FitsSigned}
use Rattle.std.specs.Int.{w128}
use Rattle.std.proofs.lemmas.Int.{ints, to_z-of_z}
use Rattle.std.proofs.lemmas.Result.{err_from_is_err_and}
use Rattle.zr_base.specs.Sums.{sum_step}
use Rattle.zr_base.proofs.SumSteps.{sum_step_narrow}
use Rattle.zr_base.proofs.TermLaws.{entry_from}
use Rattle.zr_lin.proofs.RowStep.{added_none, in_range, narrow_here, wide_here, added_more}
use Rattle.zr_lin.proofs.combination.add_row.Goals as goal
use Rattle.zr_lin.proofs.combination.add_row.Goals.{After-add_product}

pub loop-column-init : goal.loop-column-init
loop-column-init c =
    let f : FitsSigned w128 c.args.by = search rules in
    simp to_z-of_z (added_none c.args.left.now c.args.by c.requires.narrow)

pub slice_copy_out-add_product : goal.slice_copy_out-add_product
slice_copy_out-add_product c =
    let f : FitsSigned w128 c.args.by = search rules in
    in_range c.args.left.now c.loop-column.left c.args.coef.now c.args.by c.loop-column.column-index c.requires.columns c.requires.narrow c.loop-column-test.true c.loop-column.auto.left (simp to_z-of_z at c.loop-column.invariant)

pub add_product-requires : goal.add_product-requires
add_product-requires c =
    let f : FitsSigned w128 c.args.by = search rules in
    let n = narrow_here c.args.left.now c.loop-column.left c.args.coef.now c.args.by c.loop-column.column-index c.requires.columns c.requires.narrow c.loop-column-test.true c.loop-column.auto.left (simp to_z-of_z at c.loop-column.invariant) in
    let g : FitsSigned w128 (get_or c.loop-column.left (get_or c.args.coef.now c.loop-column.column-index (0, pos 0)).0 (pos 0)) = omega (arith, ints, n) in
    simp to_z-of_z n

pub bounds-left-column : goal.bounds-left-column
bounds-left-column c =
    let f : FitsSigned w128 c.args.by = search rules in
    in_range c.args.left.now c.loop-column.left c.args.coef.now c.args.by c.loop-column.column-index c.requires.columns c.requires.narrow c.loop-column-test.true c.loop-column.auto.left (simp to_z-of_z at c.loop-column.invariant)

stepped : (c : After-add_product) → c.add_product.result ≡ sum_step (get_or c.loop-column.left (get_or c.args.coef.now c.loop-column.column-index (0, pos 0)).0 (pos 0)) (c.args.by, (get_or c.args.coef.now c.loop-column.column-index (0, pos 0)).1)
stepped c =
    let f : FitsSigned w128 c.args.by = search rules in
    let n = narrow_here c.args.left.now c.loop-column.left c.args.coef.now c.args.by c.loop-column.column-index c.requires.columns c.requires.narrow c.loop-column-test.true c.loop-column.auto.left (simp to_z-of_z at c.loop-column.invariant) in
    let g : FitsSigned w128 (get_or c.loop-column.left (get_or c.args.coef.now c.loop-column.column-index (0, pos 0)).0 (pos 0)) = omega (arith, ints, n) in
    let r = (entry_from 0 _ c.args.coef.now c.loop-column.column-index (0, pos 0) c.requires.columns c.loop-column-test.true).2 in
    let h : FitsSigned w128 (get_or c.args.coef.now c.loop-column.column-index (0, pos 0)).1 = omega (arith, ints, r) in
    simp to_z-of_z at c.add_product.ensures.step

pub returns-in_err-left-clause-wide : goal.returns-in_err-left-clause-wide
returns-in_err-left-clause-wide c =
    let at = goal.at.returns-in_err-left-clause-wide c in
    let p = err_from_is_err_and c.from_residual.result c.from_residual.ensures.1 in
    let f : FitsSigned w128 c.args.by = search rules in
    rw (p.1, p.2) (wide_here c.args.left.now c.loop-column.left c.args.coef.now c.args.by c.loop-column.column-index c.requires.columns c.requires.narrow c.loop-column-test.true c.loop-column.auto.left (simp to_z-of_z at c.loop-column.invariant) _ (sym c.in_err-left.was ∙ stepped at.After-add_product))

pub loop-column-preserved : goal.loop-column-preserved
loop-column-preserved c =
    let at = goal.at.loop-column-preserved c in
    let f : FitsSigned w128 c.args.by = search rules in
    let e = sym c.in_ok-left.was ∙ stepped at.After-add_product in
    let g : FitsSigned w128 c.in_ok-left.field-0 = omega (arith, ints, sum_step_narrow _ _ _ (sym e)) in
    simp to_z-of_z (added_more c.args.left.now c.loop-column.left c.args.coef.now c.args.by c.loop-column.column-index c.requires.columns c.requires.narrow c.loop-column-test.true c.loop-column.auto.left (simp to_z-of_z at c.loop-column.invariant) c.in_ok-left.field-0 e)
