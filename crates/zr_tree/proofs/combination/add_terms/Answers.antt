use Rattle.std.proofs.Common.{rules, arith, ◌≡◌, sym, ap, ◌∙◌, ℤ, pos, get_or, FitsSigned}
use Rattle.std.specs.Int.{w64, w128}
use Rattle.std.proofs.lemmas.Int.{ints, to_z-of_z}
use Rattle.std.proofs.lemmas.Result.{err_from_is_err_and}
use Rattle.zr_base.specs.Sums.{sum_step}
use Rattle.zr_base.proofs.SumSteps.{sum_step_narrow}
use Rattle.zr_tree.specs.SlotRows.{signed}
use Rattle.zr_tree.proofs.Additions.{added_more, added_none, in_range, narrow_here, wide_here}
use Rattle.zr_tree.proofs.combination.add_terms.Goals as goal
use Rattle.zr_tree.proofs.combination.add_terms.Goals.{After-add_product}

pub loop-column-init : goal.loop-column-init
loop-column-init c =
    let f : FitsSigned w128 c.args.by = search rules in
    simp to_z-of_z (added_none c.args.sums.now c.args.negated c.args.by c.requires.narrow)

pub slice_copy_out-add_product : goal.slice_copy_out-add_product
slice_copy_out-add_product c =
    let f : FitsSigned w128 c.args.by = search rules in
    in_range c.args.sums.now c.loop-column.sums c.args.terms.now c.args.negated c.args.by c.loop-column.column-index c.requires.terms c.requires.narrow c.loop-column-test.true c.loop-column.auto.sums (simp to_z-of_z at c.loop-column.invariant)

pub add_product-requires : goal.add_product-requires
add_product-requires c =
    let f : FitsSigned w128 c.args.by = search rules in
    let n = narrow_here c.args.sums.now c.loop-column.sums c.args.terms.now c.args.negated c.args.by c.loop-column.column-index c.requires.terms c.requires.narrow c.loop-column-test.true c.loop-column.auto.sums (simp to_z-of_z at c.loop-column.invariant) in
    let g : FitsSigned w128 (get_or c.loop-column.sums (get_or c.args.terms.now c.loop-column.column-index (0, pos 0)).0 (pos 0)) = omega (arith, ints, n) in
    simp to_z-of_z n

pub bounds-sums-column : goal.bounds-sums-column
bounds-sums-column c =
    let f : FitsSigned w128 c.args.by = search rules in
    in_range c.args.sums.now c.loop-column.sums c.args.terms.now c.args.negated c.args.by c.loop-column.column-index c.requires.terms c.requires.narrow c.loop-column-test.true c.loop-column.auto.sums (simp to_z-of_z at c.loop-column.invariant)

stepped : (c : After-add_product) → c.add_product.result ≡ sum_step (get_or c.loop-column.sums (get_or c.args.terms.now c.loop-column.column-index (0, pos 0)).0 (pos 0)) (c.args.by, signed c.args.negated (get_or c.args.terms.now c.loop-column.column-index (0, pos 0)).1)
stepped c =
    let f : FitsSigned w128 c.args.by = search rules in
    let n = narrow_here c.args.sums.now c.loop-column.sums c.args.terms.now c.args.negated c.args.by c.loop-column.column-index c.requires.terms c.requires.narrow c.loop-column-test.true c.loop-column.auto.sums (simp to_z-of_z at c.loop-column.invariant) in
    let g : FitsSigned w128 (get_or c.loop-column.sums (get_or c.args.terms.now c.loop-column.column-index (0, pos 0)).0 (pos 0)) = omega (arith, ints, n) in
    let k : FitsSigned w64 (get_or c.args.terms.now c.loop-column.column-index (0, pos 0)).1 = search rules in
    let h : FitsSigned w128 c.with_sign.result = search rules in
    let e = simp to_z-of_z at c.with_sign.ensures in
    (simp to_z-of_z at c.add_product.ensures.step) ∙ ap (λ (z : ℤ). sum_step (get_or c.loop-column.sums (get_or c.args.terms.now c.loop-column.column-index (0, pos 0)).0 (pos 0)) (c.args.by, z)) e

pub returns-in_err-sums-clause-wide : goal.returns-in_err-sums-clause-wide
returns-in_err-sums-clause-wide c =
    let at = goal.at.returns-in_err-sums-clause-wide c in
    let p = err_from_is_err_and c.from_residual.result c.from_residual.ensures.1 in
    let f : FitsSigned w128 c.args.by = search rules in
    rw p.1 (wide_here c.args.sums.now c.loop-column.sums c.args.terms.now c.args.negated c.args.by c.loop-column.column-index c.requires.terms c.requires.narrow c.loop-column-test.true c.loop-column.auto.sums (simp to_z-of_z at c.loop-column.invariant) _ (sym (stepped at.After-add_product) ∙ c.in_err-sums.was))

pub loop-column-preserved : goal.loop-column-preserved
loop-column-preserved c =
    let at = goal.at.loop-column-preserved c in
    let f : FitsSigned w128 c.args.by = search rules in
    let e = sym (stepped at.After-add_product) ∙ c.in_ok-sums.was in
    let g : FitsSigned w128 c.in_ok-sums.field-0 = omega (arith, ints, sum_step_narrow _ _ _ e) in
    simp to_z-of_z (added_more c.args.sums.now c.loop-column.sums c.args.terms.now c.args.negated c.args.by c.loop-column.column-index c.requires.terms c.requires.narrow c.loop-column-test.true c.loop-column.auto.sums (simp to_z-of_z at c.loop-column.invariant) c.in_ok-sums.field-0 e)
