use Rattle.std.proofs.Common.{◌∙◌}
use Rattle.zr_basis.specs.Orders.{IsValueOrder}
use Rattle.zr_basis.specs.Runs.{IsFromBasis, Run}
use Rattle.zr_basis.proofs.Dual.{positive_at_value}
use Rattle.zr_simplex.specs.Programs.{program_of}
use Rattle.zr_simplex.specs.Halts.{IsFrom, origin_of}
use Rattle.zr_simplex.specs.Tableaus.{basis_of, form_of, order_of}
use Rattle.zr_simplex.proofs.Going.{no_pivot}
use Rattle.zr_simplex.proofs.Stops.{answers_too, causes_too, from_basis}
use Rattle.zr_simplex.proofs.ValueOrder.{is_value_order}
use Rattle.zr_simplex.proofs.resume.go_on.Goals as goal
use Rattle.zr_simplex.proofs.resume.go_on.Goals.{After-deref}

pub returns-in-Err-clause-few : goal.returns-in-Err-clause-few
returns-in-Err-clause-few c = no_pivot (program_of c.args.lp.now) c.args.purse.now

module _ (c : After-deref) where
  order : IsValueOrder (program_of c.args.lp.now) (basis_of c.args.tableau) (order_of c.deref.result.now)
  order =
      is_value_order (program_of c.args.lp.now) c.args.tableau c.requires.kept c.deref.result.now (c.deref.ensures.value ∙ c.in-Ok.ensures)

  begins : (run : Run (program_of c.args.lp.now)) → IsFrom (program_of c.args.lp.now) (origin_of c.args.tableau c.deref.result.now) run → IsFromBasis (program_of c.args.lp.now) (basis_of c.args.tableau) run
  begins =
      from_basis (program_of c.args.lp.now) (origin_of c.args.tableau c.deref.result.now) c.requires.dual order

pub solve_from-requires-clause-order : goal.solve_from-requires-clause-order
solve_from-requires-clause-order c =
    (order (goal.at.solve_from-requires-clause-order c).After-deref).ordered

pub solve_from-requires-clause-positive : goal.solve_from-requires-clause-positive
solve_from-requires-clause-positive c =
    let at = (goal.at.solve_from-requires-clause-positive c).After-deref in
    let t = c.args.tableau in
    positive_at_value (program_of c.args.lp.now) (order_of c.deref.result.now) (basis_of t) (form_of t) c.requires.kept.form c.requires.dual (order at)

pub returns-clause-reached : goal.returns-clause-reached
returns-clause-reached c =
    let at = (goal.at.returns-clause-reached c).After-deref in
    let p = program_of c.args.lp.now in
    let t = c.args.tableau in
    answers_too p (IsFrom p (origin_of t c.deref.result.now)) (IsFromBasis p (basis_of t)) c.args.purse.now c.solve_from.new.purse (begins at) (λ found. found.1) c.solve_from.result c.solve_from.ensures.reached

pub returns-clause-cause : goal.returns-clause-cause
returns-clause-cause c =
    let at = (goal.at.returns-clause-cause c).After-deref in
    let p = program_of c.args.lp.now in
    let t = c.args.tableau in
    causes_too p (IsFrom p (origin_of t c.deref.result.now)) (IsFromBasis p (basis_of t)) c.args.purse.now c.solve_from.new.purse (begins at) c.solve_from.result c.solve_from.ensures.cause
