use Rattle.std.proofs.Common.{rules, ◌≡◌, ◌+◌, arith, ap, ◌∙◌, length, slice_index}
use Rattle.zr_basis.specs.Orders.{IsColumnOrder}
use Rattle.zr_basis.specs.Runs.{IsFromSlacks, Run}
use Rattle.zr_basis.proofs.Dual.{positive_at_slacks}
use Rattle.zr_basis.proofs.Ordered.{column_order}
use Rattle.zr_simplex.specs.Programs.{program_of}
use Rattle.zr_simplex.specs.Halts.{IsFrom, origin_of}
use Rattle.zr_simplex.specs.Tableaus.{basis_of, form_of, order_of}
use Rattle.zr_simplex.proofs.Going.{no_pivot}
use Rattle.zr_simplex.proofs.Stops.{answers_too, causes_too, from_slacks}
use Rattle.zr_simplex.proofs.solve.solve_afresh.Goals as goal
use Rattle.zr_simplex.proofs.solve.solve_afresh.Goals.{After-deref}

pub returns-in-Err-clause-few : goal.returns-in-Err-clause-few
returns-in-Err-clause-few c = no_pivot (program_of c.args.lp.now) c.args.purse.now

pub returns-in-Err-numbers_from-clause-few : goal.returns-in-Err-numbers_from-clause-few
returns-in-Err-numbers_from-clause-few c = no_pivot (program_of c.args.lp.now) c.args.purse.now

module _ (c : After-deref) where
  columns : IsColumnOrder (program_of c.args.lp.now) (order_of c.deref.result.now)
  columns =
      let e : c.len.result ≡ length c.args.lp.now.rows.items = search rules in
      let made = c.in-Ok-numbers_from.ensures in
      record {
        count = ap length c.deref.ensures.value ∙ made.len ∙ ap (λ n. c.args.lp.now.columns + n) e;
        columns = λ k h. ap (λ xs. slice_index xs k) c.deref.ensures.value ∙ made.each k (omega (arith, h, e)) ∙ omega arith;
      }

  begins : (run : Run (program_of c.args.lp.now)) → IsFrom (program_of c.args.lp.now) (origin_of c.in-Ok.tableau c.deref.result.now) run → IsFromSlacks (program_of c.args.lp.now) run
  begins =
      from_slacks (program_of c.args.lp.now) (origin_of c.in-Ok.tableau c.deref.result.now) c.in-Ok.ensures.slacks columns

pub solve_from-requires-clause-order : goal.solve_from-requires-clause-order
solve_from-requires-clause-order c =
    let at = (goal.at.solve_from-requires-clause-order c).After-deref in
    column_order (program_of c.args.lp.now) (order_of c.deref.result.now) (columns at)

pub solve_from-requires-clause-positive : goal.solve_from-requires-clause-positive
solve_from-requires-clause-positive c =
    let at = (goal.at.solve_from-requires-clause-positive c).After-deref in
    let t = c.in-Ok.tableau in
    positive_at_slacks (program_of c.args.lp.now) (order_of c.deref.result.now) (basis_of t) (form_of t) (columns at) c.in-Ok.ensures.slacks

pub returns-clause-reached : goal.returns-clause-reached
returns-clause-reached c =
    let at = (goal.at.returns-clause-reached c).After-deref in
    let p = program_of c.args.lp.now in
    answers_too p (IsFrom p (origin_of c.in-Ok.tableau c.deref.result.now)) (IsFromSlacks p) c.args.purse.now c.solve_from.new.purse (begins at) (λ found. found.1) c.solve_from.result c.solve_from.ensures.reached

pub returns-clause-cause : goal.returns-clause-cause
returns-clause-cause c =
    let at = (goal.at.returns-clause-cause c).After-deref in
    let p = program_of c.args.lp.now in
    causes_too p (IsFrom p (origin_of c.in-Ok.tableau c.deref.result.now)) (IsFromSlacks p) c.args.purse.now c.solve_from.new.purse (begins at) c.solve_from.result c.solve_from.ensures.cause
