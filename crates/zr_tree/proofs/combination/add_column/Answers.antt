use Rattle.std.proofs.Common.{rules, arith, ◌≡◌, sym, ◌∙◌, pos, get_or, FitsSigned}
use Rattle.std.specs.Int.{w64, w128}
use Rattle.std.proofs.lemmas.Int.{ints, to_z-of_z}
use Rattle.std.proofs.lemmas.Result.{err_from_is_err_and}
use Rattle.zr_base.specs.Sums.{sum_step}
use Rattle.zr_base.proofs.SumSteps.{sum_step_narrow}
use Rattle.zr_tree.proofs.Additions.{column_added, wide_column}
use Rattle.zr_tree.proofs.combination.add_column.Goals as goal
use Rattle.zr_tree.proofs.combination.add_column.Goals.{After-add_product}

stepped : (c : After-add_product) → c.add_product.result ≡ sum_step (get_or c.args.sums.now c.args.column (pos 0)) (c.args.by, c.args.number)
stepped c =
    let f : FitsSigned w128 c.args.by = search rules in
    let n = c.requires.narrow c.args.column (pos 0) c.requires.column in
    let g : FitsSigned w128 (get_or c.args.sums.now c.args.column (pos 0)) = omega (arith, ints, n) in
    let k : FitsSigned w64 c.args.number = search rules in
    let h : FitsSigned w128 c.args.number = omega (arith, ints, k) in
    simp to_z-of_z at (rw c.from.ensures at c.add_product.ensures.step)

pub returns-in_err-sums-clause-wide : goal.returns-in_err-sums-clause-wide
returns-in_err-sums-clause-wide c =
    let at = goal.at.returns-in_err-sums-clause-wide c in
    let p = err_from_is_err_and c.from_residual.result c.from_residual.ensures.1 in
    rw p.1 (wide_column c.args.sums.now c.args.column c.args.number c.args.by c.requires.column _ (sym (stepped at.After-add_product) ∙ c.in_err-sums.was))

pub returns-clause-sums : goal.returns-clause-sums
returns-clause-sums c =
    let at = goal.at.returns-clause-sums c in
    let e = sym (stepped at.After-add_product) ∙ c.in_ok-sums.was in
    let g : FitsSigned w128 c.in_ok-sums.field-0 = omega (arith, ints, sum_step_narrow _ _ _ e) in
    simp to_z-of_z (column_added c.args.sums.now c.args.column c.args.number c.args.by c.requires.column c.requires.narrow c.in_ok-sums.field-0 e)
