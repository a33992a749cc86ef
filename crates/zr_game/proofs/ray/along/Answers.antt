use Rattle.std.proofs.Common.{rules, arith, ◌≡◌, ◌∙◌, sym, pos, get_or, FitsSigned, to_z}
use Rattle.std.specs.Int.{w64, w128}
use Rattle.std.proofs.lemmas.Int.{ints, to_z-of_z}
use Rattle.std.proofs.lemmas.Result.{err_from_is_err_and}
use Rattle.zr_base.specs.Sums.{sum_step}
use Rattle.zr_base.proofs.SumSteps.{sum_step_narrow}
use Rattle.zr_base.proofs.RowProducts.{product_more, product_wide}
use Rattle.zr_game.proofs.ray.along.Goals as goal
use Rattle.zr_game.proofs.ray.along.Goals.{After-add_product}

stepped : (c : After-add_product)
    → c.add_product.result ≡ sum_step (to_z w128 c.loop-column.sum-bits) (
      (get_or c.args.coef.now c.loop-column.column-index (0, pos 0)).1,
      get_or c.args.dir.now (get_or c.args.coef.now c.loop-column.column-index (0, pos 0)).0 (pos 0),
    )
stepped c =
    let f : FitsSigned w64 (get_or c.args.coef.now c.loop-column.column-index (0, pos 0)).1 = search
    rules in
    let g : FitsSigned w128 c.from.result = search rules in
    let h : FitsSigned w128 (get_or c.args.dir.now
    (get_or c.args.coef.now c.loop-column.column-index (0, pos 0)).0 (pos 0)) = search rules in
    rw (simp to_z-of_z at c.from.ensures) at (simp to_z-of_z at c.add_product.ensures.step)

pub returns-in_err-sum : goal.returns-in_err-sum
returns-in_err-sum c =
    let at = goal.at.returns-in_err-sum c in
    let p = err_from_is_err_and c.from_residual.result c.from_residual.ensures.1 in
    rw (p.1, p.2)
    (sym (product_wide c.args.coef.now c.args.dir.now c.loop-column.column-index
    (to_z w128 c.loop-column.sum-bits) c.loop-column-test.true c.loop-column.invariant.sum _
    (sym (stepped at.After-add_product) ∙ c.in_err-sum.was)))

pub loop-column-preserved : goal.loop-column-preserved
loop-column-preserved c =
    let at = goal.at.loop-column-preserved c in
    let e = sym (stepped at.After-add_product) ∙ c.in_ok-sum.was in
    let n = sum_step_narrow _ _ _ e in
    let f : FitsSigned w128 c.in_ok-sum.sum = omega (arith, ints, n) in
    simp to_z-of_z (record {
      sum = product_more c.args.coef.now c.args.dir.now c.loop-column.column-index
          (to_z w128 c.loop-column.sum-bits) c.loop-column-test.true c.loop-column.invariant.sum
          c.in_ok-sum.sum e;
      narrow = n;
    })
