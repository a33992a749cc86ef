use Rattle.std.proofs.Common.{rules, arith, ◌≡◌, ◌<◌, ◌∙◌, sym, pos, length, get_or, FitsSigned, to_z}
use Rattle.std.specs.Int.{w128}
use Rattle.std.proofs.lemmas.List.{length-map, take_all}
use Rattle.std.proofs.lemmas.Int.{ints, to_z-of_z}
use Rattle.std.proofs.lemmas.Result.{err_from_is_err_and}
use Rattle.zr_base.specs.Steps.{IsNarrow}
use Rattle.zr_base.specs.Sums.{sum_step}
use Rattle.zr_base.proofs.SumSteps.{sum_step_narrow}
use Rattle.zr_lin.specs.Ineqs.{IsIneq, dense, ineq_of, row_at, rows_of}
use Rattle.zr_lin.proofs.SparseRows.{read_form, read_row}
use Rattle.zr_lin.proofs.MoreRows.{multiplied_below, wide_column, wide_right, more}
use Rattle.zr_lin.proofs.Summed.{is_combination, left_narrow, le_narrow}
use Rattle.zr_lin.proofs.combination.combine.Goals as goal
use Rattle.zr_lin.proofs.combination.combine.Goals.{After-index-row, After-add_product}

pub index-row-requires : goal.index-row-requires
index-row-requires c =
    let k = multiplied_below (length (rows_of c.args.sys.now)) c.args.mult.now c.loop-number.number-index c.requires.multipliers c.loop-number-test.true in
    let l = length-map c.args.sys.now.rows.items ineq_of in
    omega (arith, k, l, c.args.sys.now.rows.ok.0)

exists : (c : After-index-row) → (get_or c.args.mult.now c.loop-number.number-index (0, pos 0)).0 < length c.args.sys.now.rows.items
exists c =
    let k = multiplied_below (length (rows_of c.args.sys.now)) c.args.mult.now c.loop-number.number-index c.requires.multipliers c.loop-number-test.true in
    let l = length-map c.args.sys.now.rows.items ineq_of in
    omega (arith, k, l)

read : (c : After-index-row) → row_at (rows_of c.args.sys.now) (get_or c.args.mult.now c.loop-number.number-index (0, pos 0)).0 ≡ dense (ineq_of c.index-row.result.now)
read c = read_row c.args.sys.now.rows.items _ c.index-row.result.now (exists c) c.index-row.ensures

form : (c : After-index-row) → IsIneq c.args.sys.now.columns (ineq_of c.index-row.result.now)
form c =
    read_form c.args.sys.now.columns c.args.sys.now.rows.items c.requires.rows _ c.index-row.result.now (exists c) c.index-row.ensures

pub add_row-requires-clause-columns : goal.add_row-requires-clause-columns
add_row-requires-clause-columns c =
    let at = goal.at.add_row-requires-clause-columns c in
    let same : length c.loop-number.left ≡ c.args.sys.now.columns = c.loop-number.auto.left ∙ c.clear.auto.left ∙ c.requires.places in
    rw (same, c.deref.ensures.value) (form at.After-index-row).0

pub add_row-requires-clause-narrow : goal.add_row-requires-clause-narrow
add_row-requires-clause-narrow c = left_narrow _ _ _ _ c.loop-number.invariant

pub add_product-requires : goal.add_product-requires
add_product-requires c = le_narrow _ _ _ _ c.loop-number.invariant

pub returns-in_err-add_row-clause-wide : goal.returns-in_err-add_row-clause-wide
returns-in_err-add_row-clause-wide c =
    let at = goal.at.returns-in_err-add_row-clause-wide c in
    let p = err_from_is_err_and c.from_residual.result c.from_residual.ensures.1 in
    let same : length c.loop-number.left ≡ c.args.sys.now.columns = c.loop-number.auto.left ∙ c.clear.auto.left ∙ c.requires.places in
    let b : FitsSigned w128 (get_or c.args.mult.now c.loop-number.number-index (0, pos 0)).1 = search rules in
    let w = simp to_z-of_z at (rw c.deref.ensures.value at c.in_err-add_row.ensures.wide) in
    rw (p.1, p.2) (wide_column _ c.args.mult.now c.loop-number.number-index c.loop-number-test.true _ (read at.After-index-row) c.loop-number.left (to_z w128 c.loop-number.le-bits) c.loop-number.strict c.loop-number.invariant c.args.sys.now.columns _ same w)

stepped : (c : After-add_product) → IsNarrow c.index-row.result.now.le → c.add_product.result ≡ sum_step (to_z w128 c.loop-number.le-bits) ((get_or c.args.mult.now c.loop-number.number-index (0, pos 0)).1, c.index-row.result.now.le)
stepped c n =
    let b : FitsSigned w128 (get_or c.args.mult.now c.loop-number.number-index (0, pos 0)).1 = search rules in
    let r : FitsSigned w128 c.index-row.result.now.le = omega (arith, ints, n) in
    simp to_z-of_z at c.add_product.ensures.step

pub returns-in_err-le-clause-wide : goal.returns-in_err-le-clause-wide
returns-in_err-le-clause-wide c =
    let at = goal.at.returns-in_err-le-clause-wide c in
    let p = err_from_is_err_and c.from_residual-in_err-le.result c.from_residual-in_err-le.ensures.1 in
    rw (p.1, p.2) (wide_right _ c.args.mult.now c.loop-number.number-index c.loop-number-test.true _ (read at.After-index-row) c.loop-number.left (to_z w128 c.loop-number.le-bits) c.loop-number.strict c.loop-number.invariant c.args.sys.now.columns _ (sym (stepped at.After-add_product (form at.After-index-row).1) ∙ c.in_err-le.was))

pub loop-number-preserved : goal.loop-number-preserved
loop-number-preserved c =
    let at = goal.at.loop-number-preserved c in
    let e = sym (stepped at.After-add_product (form at.After-index-row).1) ∙ c.in_ok-le.was in
    let b : FitsSigned w128 (get_or c.args.mult.now c.loop-number.number-index (0, pos 0)).1 = search rules in
    let f : FitsSigned w128 c.in_ok-le.le = omega (arith, ints, sum_step_narrow _ _ _ e) in
    let steps = simp to_z-of_z at (rw c.deref.ensures.value at c.in_ok-add_row.ensures.sums) in
    simp to_z-of_z (more _ c.args.mult.now c.loop-number.number-index c.loop-number-test.true _ (read at.After-index-row) c.loop-number.left (to_z w128 c.loop-number.le-bits) c.loop-number.strict c.loop-number.invariant c.add_row.new.left c.in_ok-le.le c.add_row.auto.left steps e)

pub returns-clause-exact : goal.returns-clause-exact
returns-clause-exact c =
    let all = take_all c.loop-number.number-index c.args.mult.now c.loop-number-test.false in
    is_combination _ _ _ _ (rw all at c.loop-number.invariant)

pub returns-clause-narrow : goal.returns-clause-narrow
returns-clause-narrow c =
    (left_narrow _ _ _ _ c.loop-number.invariant, le_narrow _ _ _ _ c.loop-number.invariant)
