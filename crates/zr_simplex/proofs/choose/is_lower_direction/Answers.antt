use Rattle.std.proofs.Common.{◌≡◌, ◌≢◌, ℤ, arith, ap, subst, ◌∙◌, ⊎_elim, pos, ◌<ℤ◌, slice_index}
use Rattle.std.proofs.lemmas.Bool.{cases_eq}
use Rattle.std.specs.Ordering.{MatchOrdering}
use Rattle.zr_basis.proofs.Compared.{below_at, compares, not_below_at, not_below_level, numbers}
use Rattle.zr_simplex.specs.Programs.{program_of}
use Rattle.zr_simplex.specs.Tableaus.{basis_of, form_of, order_of}
use Rattle.zr_simplex.proofs.choose.is_lower_direction.Goals as goal

pub returns-in-Less-clause-yes : goal.returns-in-Less-clause-yes
returns-in-Less-clause-yes c same =
    let p = program_of c.args.lp.now in
    let order = order_of c.args.order.now in
    let basis = basis_of c.args.tableau.now in
    let form = form_of c.args.tableau.now in
    let at = c.requires in
    let row = c.args.row in
    let k = c.args.column in
    let l = c.args.last in
    let m = c.loop-place.place in
    let number = numbers p order at.order basis form at.kept.form row at.row k l at.apart at.column at.last at.under at.under_last in
    let is = compares p order at.order basis form at.kept.form row at.row k l at.apart at.column at.last at.under at.under_last in
    let z : ℤ = number (slice_index c.args.order.now m) in
    let up : (pos 0) <ℤ z = subst (λ r. MatchOrdering r (pos 0 <ℤ z) (z ≡ pos 0) (z <ℤ pos 0)) c.in-Less.is (c.compare_directions.ensures number is) in
    below_at p order at.order basis form at.kept.form row at.row k l at.apart at.column at.last at.under at.under_last m c.loop-place-test.true (c.loop-place.invariant number is) up

pub returns-in-Greater-clause-no : goal.returns-in-Greater-clause-no
returns-in-Greater-clause-no c same =
    let p = program_of c.args.lp.now in
    let order = order_of c.args.order.now in
    let basis = basis_of c.args.tableau.now in
    let form = form_of c.args.tableau.now in
    let at = c.requires in
    let row = c.args.row in
    let k = c.args.column in
    let l = c.args.last in
    let m = c.loop-place.place in
    let number = numbers p order at.order basis form at.kept.form row at.row k l at.apart at.column at.last at.under at.under_last in
    let is = compares p order at.order basis form at.kept.form row at.row k l at.apart at.column at.last at.under at.under_last in
    let z : ℤ = number (slice_index c.args.order.now m) in
    let low : z <ℤ (pos 0) = subst (λ r. MatchOrdering r (pos 0 <ℤ z) (z ≡ pos 0) (z <ℤ pos 0)) c.in-Greater.is (c.compare_directions.ensures number is) in
    not_below_at p order at.order basis form at.kept.form row at.row k l at.apart at.column at.last at.under at.under_last m c.loop-place-test.true (c.loop-place.invariant number is) low

pub loop-place-preserved : goal.loop-place-preserved
loop-place-preserved c numbers is m h =
    let at = c.loop-place.place in
    let z : ℤ = numbers (slice_index c.args.order.now at) in
    let level : z ≡ pos 0 = subst (λ r. MatchOrdering r (pos 0 <ℤ z) (z ≡ pos 0) (z <ℤ pos 0)) c.in-Equal.is (c.compare_directions.ensures numbers is) in
    ⊎_elim (λ (e : m ≡ at). ap (λ i. numbers (slice_index c.args.order.now i)) e ∙ level) (λ (a : m ≢ at). c.loop-place.invariant numbers is m (omega (arith, h, a))) (cases_eq m at)

pub returns-clause-no : goal.returns-clause-no
returns-clause-no c same =
    let p = program_of c.args.lp.now in
    let order = order_of c.args.order.now in
    let basis = basis_of c.args.tableau.now in
    let form = form_of c.args.tableau.now in
    let at = c.requires in
    let row = c.args.row in
    let k = c.args.column in
    let l = c.args.last in
    let number = numbers p order at.order basis form at.kept.form row at.row k l at.apart at.column at.last at.under at.under_last in
    let is = compares p order at.order basis form at.kept.form row at.row k l at.apart at.column at.last at.under at.under_last in
    not_below_level p order at.order basis form at.kept.form row at.row k l at.apart at.column at.last at.under at.under_last (λ m h. c.loop-place.invariant number is m (omega (arith, h, c.loop-place-test.false)))
