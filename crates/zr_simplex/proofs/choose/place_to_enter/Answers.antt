use Rattle.std.proofs.Common.{rules, ◌≡◌, arith, ap, ◌∙◌, pos, ◌<ℤ◌, ◌≤ℤ◌, FitsSigned}
use Rattle.std.specs.Int.{w128}
use Rattle.zr_basis.proofs.Picked.{column_found, column_skipped, column_taken}
use Rattle.zr_simplex.specs.Programs.{program_of}
use Rattle.zr_simplex.specs.Tableaus.{basis_of, form_of, free_of, order_of}
use Rattle.zr_simplex.proofs.Kept.{free_below, free_place}
use Rattle.zr_simplex.proofs.choose.place_to_enter.Goals as goal
use Rattle.zr_simplex.proofs.choose.place_to_enter.Goals.{then-number-lt0, else-number-lt0}

pub loop-place-preserved : goal.loop-place-preserved
loop-place-preserved c =
    let p = program_of c.args.lp.now in
    let t = c.args.tableau.now in
    let kept = c.requires.kept in
    let order = order_of c.args.order.now in
    let place = c.loop-place.place in
    let form = form_of t in
    let n : FitsSigned w128 c.number.result = search rules in
    let is : c.number.result ≡ form c.args.row (free_of t place) = c.number.ensures.value ∙ ap (form c.args.row) c.free-column.ensures in
    elim c.if-number-lt0.branch [
      | then-number-lt0 w ↦
          let under : form c.args.row (free_of t place) <ℤ (pos 0) = rw (← is) (search rules) in
          rw w.best-is (column_taken p order c.requires.order (basis_of t) form kept.form c.args.row c.requires.row (free_of t) (free_below p t kept) (free_place p t kept) place c.loop-place.best w.better_place.result (c.loop-place-test.true, under) c.loop-place.invariant w.better_place.ensures)
      | else-number-lt0 w ↦
          let high : (pos 0) ≤ℤ form c.args.row (free_of t place) = rw (← is) (search rules) in
          rw w.best-is (column_skipped p order c.requires.order (basis_of t) form kept.form c.args.row c.requires.row (free_of t) (free_below p t kept) (free_place p t kept) place c.loop-place.best high c.loop-place.invariant)
    ]

pub returns : goal.returns
returns c =
    let p = program_of c.args.lp.now in
    let t = c.args.tableau.now in
    let kept = c.requires.kept in
    let reached : c.loop-place.place ≡ c.args.lp.now.columns = omega (arith, c.loop-place-test.false, c.loop-place.auto.place-end) in
    column_found p (order_of c.args.order.now) c.requires.order (basis_of t) (form_of t) kept.form c.args.row c.requires.row (free_of t) (free_below p t kept) (free_place p t kept) c.loop-place.best c.requires.right (rw reached at c.loop-place.invariant)
