use Rattle.std.proofs.Common.{rules, ◌≡◌, ◌+◌, ◌^◌, ◌<◌, arith, ap, sym, ◌∙◌, length, slice_index}
use Rattle.zr_basis.specs.BasicForms.{value_column}
use Rattle.zr_basis.proofs.Counting.{choices_below_power}
use Rattle.zr_simplex.specs.Programs.{program_of}
use Rattle.zr_simplex.specs.Binaries.{number_of}
use Rattle.zr_simplex.specs.Halts.{origin_of}
use Rattle.zr_simplex.specs.Tableaus.{basis_of, form_of, order_of}
use Rattle.std.specs.Vec.{with_items}
use Rattle.std.proofs.lemmas.List.{with_items_is}
use Rattle.zr_simplex.proofs.Digits.{none_set}
use Rattle.zr_simplex.proofs.Going.{begins, due_after, end_if, going_counts, going_due, going_few, going_more, going_on, going_ready, going_run, no_pivot}
use Rattle.zr_simplex.proofs.solve.run.Goals as goal

pub returns-in-Err-clause-few : goal.returns-in-Err-clause-few
returns-in-Err-clause-few c =
    no_pivot (program_of c.args.lp.now) c.args.purse.now

pub pivots-init : goal.pivots-init
pivots-init c =
    let p = program_of c.args.lp.now in
    let t = c.args.tableau.now in
    let e : c.len.result ≡ length c.args.lp.now.rows.items = search rules in
    let made = c.in-Ok.ensures in
    let none : number_of c.in-Ok.count.items ≡ 0 = none_set c.in-Ok.count.items made.zeros in
    record {
      kept = c.requires.kept;
      digits = made.len ∙ ap (λ n. p.columns + n) e;
      going = rw none (begins p (origin_of t c.args.order.now) c.args.purse.now c.requires.order c.requires.kept.form c.requires.positive);
    }

pub next_due-requires-clause-start : goal.next_due-requires-clause-start
next_due-requires-clause-start c =
    let t = c.pivots.tableau in
    going_ready c.pivots.start (λ kept. kept.items) (program_of c.args.lp.now) (origin_of c.args.tableau.now c.args.order.now) c.args.purse.now c.pivots.purse (number_of c.pivots.count.items) (basis_of t) (form_of t) c.pivots.invariant.going

pub returns-in-Err-next_due-clause-few : goal.returns-in-Err-next_due-clause-few
returns-in-Err-next_due-clause-few c =
    let p = program_of c.args.lp.now in
    let t = c.pivots.tableau in
    let n = number_of c.pivots.count.items in
    let state = c.pivots.invariant.going in (
      n,
      going_few c.pivots.start (λ kept. kept.items) p (origin_of c.args.tableau.now c.args.order.now) c.args.purse.now c.pivots.purse n (basis_of t) (form_of t) state,
      going_counts c.pivots.start (λ kept. kept.items) p (origin_of c.args.tableau.now c.args.order.now) c.args.purse.now c.pivots.purse n (basis_of t) (form_of t) state,
    )

pub returns-in_default : goal.returns-in_default
returns-in_default c =
    let p = program_of c.args.lp.now in
    let t = c.pivots.tableau in
    let n = number_of c.pivots.count.items in
    let inv = c.pivots.invariant in
    let next = c.next_due.new.start in
    let told = c.in-Ok-next_due.ensures in
    let state = going_on c.pivots.start next (λ kept. kept.items) p (origin_of c.args.tableau.now c.args.order.now) c.args.purse.now c.pivots.purse n t.basis (form_of t) inv.kept.count inv.going told.kept in
    record {
      kept = inv.kept;
      end = end_if next (λ kept. kept.items) p (order_of c.args.order.now) (basis_of t) (form_of t) c.in-Ok-next_due.due told.due c.in_default.not-Pivot;
      run = going_run next (λ kept. kept.items) p (origin_of c.args.tableau.now c.args.order.now) c.args.purse.now c.pivots.purse n (basis_of t) (form_of t) state;
      count = inv.kept.count;
      few = (
        n,
        going_few next (λ kept. kept.items) p (origin_of c.args.tableau.now c.args.order.now) c.args.purse.now c.pivots.purse n (basis_of t) (form_of t) state,
        going_counts next (λ kept. kept.items) p (origin_of c.args.tableau.now c.args.order.now) c.args.purse.now c.pivots.purse n (basis_of t) (form_of t) state,
      );
      miss = tt;
    }

pub returns-in-Err-counted_turn-clause-few : goal.returns-in-Err-counted_turn-clause-few
returns-in-Err-counted_turn-clause-few c =
    let p = program_of c.args.lp.now in
    let t = c.pivots.tableau in
    let n = number_of c.pivots.count.items in
    let state = c.pivots.invariant.going in
    let few = going_few c.pivots.start (λ kept. kept.items) p (origin_of c.args.tableau.now c.args.order.now) c.args.purse.now c.pivots.purse n (basis_of t) (form_of t) state in
    let counts = going_counts c.pivots.start (λ kept. kept.items) p (origin_of c.args.tableau.now c.args.order.now) c.args.purse.now c.pivots.purse n (basis_of t) (form_of t) state in
    (n, few, rw c.in-Err-counted_turn.ensures.none counts)

pub returns-in-Err-counted_turn-clause-miss : goal.returns-in-Err-counted_turn-clause-miss
returns-in-Err-counted_turn-clause-miss c =
    let p = program_of c.args.lp.now in
    let t = c.pivots.tableau in
    let n = number_of c.pivots.count.items in
    let inv = c.pivots.invariant in
    let next = c.next_due.new.start in
    let told = c.in-Ok-next_due.ensures in
    let row = c.in-Pivot.row in
    let col = c.in-Pivot.column in
    let due = rw c.in-Pivot.is at told.due in
    let state = going_on c.pivots.start next (λ kept. kept.items) p (origin_of c.args.tableau.now c.args.order.now) c.args.purse.now c.pivots.purse n t.basis (form_of t) inv.kept.count inv.going told.kept in
    let run = due_after next (λ kept. kept.items) p (origin_of c.args.tableau.now c.args.order.now) c.args.purse.now c.pivots.purse n (basis_of t) (form_of t) row col state due in
    let inside = going_due next (λ kept. kept.items) p (order_of c.args.order.now) (basis_of t) (form_of t) row col due in
    let failed = c.in-Err-counted_turn.ensures in
    let same : basis_of t ≡ basis_of c.counted_turn.new.tableau = ap (λ xs. λ i. slice_index xs i) (sym failed.err) in
    let w = failed.wide in
    (run.0, run.1, rw failed.none run.2, run.3 ∙ same, run.5, (inside.0, inside.1, w.0, w.1, w.2, rw run.4 w.3))

pub raise-requires : goal.raise-requires
raise-requires c =
    let p = program_of c.args.lp.now in
    let t = c.pivots.tableau in
    let n = number_of c.pivots.count.items in
    let inv = c.pivots.invariant in
    let next = c.next_due.new.start in
    let told = c.in-Ok-next_due.ensures in
    let due = rw c.in-Pivot.is at told.due in
    let state = going_on c.pivots.start next (λ kept. kept.items) p (origin_of c.args.tableau.now c.args.order.now) c.args.purse.now c.pivots.purse n t.basis (form_of t) inv.kept.count inv.going told.kept in
    let new = c.counted_turn.new.tableau in
    let made = c.in_default-counted_turn.ensures in
    let more = going_more next (λ kept. kept.items) p (origin_of c.args.tableau.now c.args.order.now) c.args.purse.now c.pivots.purse c.counted_turn.new.purse n (basis_of t) (form_of t) made.counts c.in-Pivot.row c.in-Pivot.column (basis_of new) (form_of new) made.kept.form made.exchanges state due in
    let few = going_few next (λ kept. kept.items) p (origin_of c.args.tableau.now c.args.order.now) c.args.purse.now c.counted_turn.new.purse (n + 1) (basis_of new) (form_of new) more in
    let power = choices_below_power (value_column p) p.rows in
    let room : n + 1 < 2 ^ value_column p = omega (arith, few, power) in
    rw (c.deref_mut.ensures.value, inv.digits) room

pub pivots-smaller : goal.pivots-smaller
pivots-smaller c =
    let p = program_of c.args.lp.now in
    let t = c.pivots.tableau in
    let n = number_of c.pivots.count.items in
    let few = going_few c.pivots.start (λ kept. kept.items) p (origin_of c.args.tableau.now c.args.order.now) c.args.purse.now c.pivots.purse n (basis_of t) (form_of t) c.pivots.invariant.going in
    let new : (with_items c.pivots.count c.raise.new.digits).items ≡ c.raise.new.digits = with_items_is c.pivots.count c.raise.new.digits (c.raise.ensures.len ∙ c.deref_mut.ensures.len) in
    let raised : number_of (with_items c.pivots.count c.raise.new.digits).items ≡ n + 1 = ap number_of new ∙ c.raise.ensures.number ∙ ap (λ xs. number_of xs + 1) c.deref_mut.ensures.value in
    omega (arith, few, raised)

pub pivots-preserved : goal.pivots-preserved
pivots-preserved c =
    let p = program_of c.args.lp.now in
    let t = c.pivots.tableau in
    let n = number_of c.pivots.count.items in
    let inv = c.pivots.invariant in
    let next = c.next_due.new.start in
    let told = c.in-Ok-next_due.ensures in
    let due = rw c.in-Pivot.is at told.due in
    let state = going_on c.pivots.start next (λ kept. kept.items) p (origin_of c.args.tableau.now c.args.order.now) c.args.purse.now c.pivots.purse n t.basis (form_of t) inv.kept.count inv.going told.kept in
    let turned = c.counted_turn.new.tableau in
    let made = c.in_default-counted_turn.ensures in
    let more = going_more next (λ kept. kept.items) p (origin_of c.args.tableau.now c.args.order.now) c.args.purse.now c.pivots.purse c.counted_turn.new.purse n (basis_of t) (form_of t) made.counts c.in-Pivot.row c.in-Pivot.column (basis_of turned) (form_of turned) made.kept.form made.exchanges state due in
    let new : (with_items c.pivots.count c.raise.new.digits).items ≡ c.raise.new.digits = with_items_is c.pivots.count c.raise.new.digits (c.raise.ensures.len ∙ c.deref_mut.ensures.len) in
    let raised : number_of (with_items c.pivots.count c.raise.new.digits).items ≡ n + 1 = ap number_of new ∙ c.raise.ensures.number ∙ ap (λ xs. number_of xs + 1) c.deref_mut.ensures.value in
    record {
      kept = made.kept;
      digits = ap length new ∙ c.raise.ensures.len ∙ ap length c.deref_mut.ensures.value ∙ inv.digits;
      going = rw raised more;
    }
