use Rattle.std.proofs.Common.{rules, arith, ◌∙◌, sym, pos, length, FitsSigned}
use Rattle.std.specs.Int.{w64, w128}
use Rattle.std.proofs.lemmas.Int.{ints, to_z-of_z}
use Rattle.std.proofs.lemmas.Result.{err_from_is_err_and}
use Rattle.zr_base.specs.Rows.{products}
use Rattle.zr_base.proofs.SumSteps.{one_more, sum_steps_narrow}
use Rattle.zr_base.proofs.Telling.{wide_front}
use Rattle.zr_game.specs.Forms.{IsCoefficient}
use Rattle.zr_game.proofs.TermColumns.{columns_exist}
use Rattle.zr_game.proofs.substitution.slack_at.Goals as goal

pub sum_at-requires : goal.sum_at-requires
sum_at-requires c =
    rw c.as_slice.ensures (columns_exist IsCoefficient 0 (length c.args.point.now.num)
    c.args.pair.now.coef.items c.requires.coef)

pub returns-in_err-terms : goal.returns-in_err-terms
returns-in_err-terms c =
    let p = err_from_is_err_and c.from_residual.result c.from_residual.ensures.1 in
    let e = sym (rw c.as_slice.ensures at c.sum_at.ensures) ∙ c.in_err-terms.was in
    rw (p.1, p.2)
    (sym (wide_front (products c.args.pair.now.coef.items c.args.point.now.num) _ _ e))

pub add_product-requires : goal.add_product-requires
add_product-requires c =
    let e = sym (rw c.as_slice.ensures at c.sum_at.ensures) ∙ c.in_ok-terms.was in
    let n = sum_steps_narrow (pos 0) c.in_ok-terms.terms _ (omega arith) e in
    let f : FitsSigned w128 c.in_ok-terms.terms = omega (arith, ints, n) in
    simp to_z-of_z n

pub returns : goal.returns
returns c =
    let e = sym (rw c.as_slice.ensures at c.sum_at.ensures) ∙ c.in_ok-terms.was in
    let n = sum_steps_narrow (pos 0) c.in_ok-terms.terms _ (omega arith) e in
    let f : FitsSigned w128 c.in_ok-terms.terms = omega (arith, ints, n) in
    let g : FitsSigned w64 c.args.pair.now.add = search rules in
    let h : FitsSigned w128 c.from.result = search rules in
    let k : FitsSigned w128 c.den.result = search rules in
    let s = rw (simp to_z-of_z at c.from.ensures, c.den.ensures.value) at
    (simp to_z-of_z at c.add_product.ensures.step) in
    s ∙
    sym (one_more (products c.args.pair.now.coef.items c.args.point.now.num) _
    c.in_ok-terms.terms e)
