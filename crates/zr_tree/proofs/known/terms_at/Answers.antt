use Rattle.std.proofs.Common.{rules, arith, ◌≡◌, ◌∙◌, sym, pos, get_or, FitsSigned, to_z}
use Rattle.std.specs.Int.{w64, w128}
use Rattle.std.proofs.lemmas.Int.{ints, to_z-of_z}
use Rattle.std.proofs.lemmas.Result.{err_from_is_err_and}
use Rattle.zr_base.specs.Sums.{sum_step}
use Rattle.zr_base.proofs.SumSteps.{sum_step_narrow}
use Rattle.zr_tree.specs.SlotRows.{signed}
use Rattle.zr_tree.proofs.SignedTerms.{signed_more, signed_wide}
use Rattle.zr_tree.proofs.known.terms_at.Goals as goal
use Rattle.zr_tree.proofs.known.terms_at.Goals.{After-add_product}

stepped : (c : After-add_product) → c.add_product.result ≡ sum_step (to_z w128 c.loop-column.sum-bits) (signed c.args.negated (get_or c.args.terms.now c.loop-column.column-index (0, pos 0)).1, get_or c.args.point.now.num (get_or c.args.terms.now c.loop-column.column-index (0, pos 0)).0 (pos 0))
stepped c =
    let f : FitsSigned w64 (get_or c.args.terms.now c.loop-column.column-index (0, pos 0)).1 = search rules in
    let g : FitsSigned w128 c.with_sign-number.result = search rules in
    let h : FitsSigned w128 c.num.result = search rules in
    rw (simp to_z-of_z at c.with_sign-number.ensures, c.num.ensures.value) at (simp to_z-of_z at c.add_product.ensures.step)

pub returns-in_err-sum : goal.returns-in_err-sum
returns-in_err-sum c =
    let at = goal.at.returns-in_err-sum c in
    let p = err_from_is_err_and c.from_residual.result c.from_residual.ensures.1 in
    rw (p.1, p.2) (sym (signed_wide c.args.negated c.args.terms.now c.args.point.now.num c.loop-column.column-index c.loop-column-test.true (to_z w128 c.loop-column.sum-bits) c.loop-column.invariant.sum _ (sym (stepped at.After-add_product) ∙ c.in_err-sum.was)))

pub loop-column-preserved : goal.loop-column-preserved
loop-column-preserved c =
    let at = goal.at.loop-column-preserved c in
    let e = sym (stepped at.After-add_product) ∙ c.in_ok-sum.was in
    let n = sum_step_narrow _ _ _ e in
    let f : FitsSigned w128 c.in_ok-sum.sum = omega (arith, ints, n) in
    simp to_z-of_z (record {
      sum = signed_more c.args.negated c.args.terms.now c.args.point.now.num c.loop-column.column-index c.loop-column-test.true (to_z w128 c.loop-column.sum-bits) c.loop-column.invariant.sum c.in_ok-sum.sum e;
      narrow = n;
    })
