use Rattle.std.proofs.Common.{ℕ, ℤ, arith, length, map, true, false}
use Rattle.std.proofs.lemmas.Result.{err_from_is_err_and}
use Rattle.zr_base.specs.Fractions.{Fraction}
use Rattle.zr_tree.specs.Nodes.{node_of}
use Rattle.zr_form.specs.Lines.{fields_of, lines_of}
use Rattle.zr_form.proofs.Composing.{line_ok}
use Rattle.zr_form.proofs.Placing.{first_stops, placed_reads, placed_stops}
use Rattle.zr_form.proofs.Walking.{line_is, shorter}
use Rattle.zr_text.specs.Reader.{cost_at}
use Rattle.zr_text.proofs.TextSteps.{bound_no_cost, bound_no_tree, bound_taken}
use Rattle.zr_text.proofs.bound.take_bound.Goals as goal

pub returns-in_err-line : goal.returns-in_err-line
returns-in_err-line c =
    let p = err_from_is_err_and c.from_residual.result c.from_residual.ensures.1 in
    rw (p.1, p.2) (bound_no_cost c.args.i (lines_of c.args.bytes.now) c.in_err-line.field-0.0
    (first_stops (cost_at true c.args.i) (cost_at false c.args.i) c.args.bytes.now
    c.in_err-line.field-0.0 c.in_err-line.ensures))

pub take_tree-requires : goal.take_tree-requires
take_tree-requires c =
    let less = shorter c.args.bytes.now c.in_ok-line.line.now c.in_ok-line.rest.now (line_is c.args.bytes.now c.in_ok-line.line.now c.in_ok-line.rest.now c.in_ok-line.ensures) in
    omega (arith, less, c.requires)

pub returns-in_err-cost : goal.returns-in_err-cost
returns-in_err-cost c =
    let p = err_from_is_err_and c.from_residual-in_err-cost.result
    c.from_residual-in_err-cost.ensures.1 in
    let l = line_is c.args.bytes.now c.in_ok-line.line.now c.in_ok-line.rest.now
    c.in_ok-line.ensures in
    rw (p.1, p.2) (bound_no_cost c.args.i (lines_of c.args.bytes.now) c.in_err-cost.field-0.0
    (placed_stops (λ (f : Fraction). (c.args.i, (f.num, f.den))) (cost_at true c.args.i)
    (cost_at false c.args.i) c.args.bytes.now c.in_ok-line.line.now c.in_ok-line.rest.now
    c.cost_line.result c.in_err-cost.field-0.0 l c.cost_line.ensures c.in_err-cost.ensures))

pub returns-in-Err : goal.returns-in-Err
returns-in-Err c =
    let l = line_is c.args.bytes.now c.in_ok-line.line.now c.in_ok-line.rest.now c.in_ok-line.ensures in
    let fs = fields_of c.in_ok-line.line.now in
    let cost : ℕ × (ℤ × ℤ) = (c.args.i, (c.in_ok-cost.cost.num, c.in_ok-cost.cost.den)) in
    let read = line_ok (cost_at true c.args.i) (cost_at false c.args.i) c.args.bytes.now c.in_ok-line.line.now c.in_ok-line.rest.now cost l
    (placed_reads (λ (f : Fraction). (c.args.i, (f.num, f.den))) (cost_at true c.args.i fs)
    (cost_at false c.args.i fs) (length c.args.bytes.now) c.cost_line.result c.in_ok-cost.cost
    c.cost_line.ensures c.in_ok-cost.ensures) in
    bound_no_tree c.args.i (lines_of c.args.bytes.now) (lines_of c.in_ok-line.rest.now) cost c.in-Err.error read c.in-Err.ensures

pub returns-in-Ok : goal.returns-in-Ok
returns-in-Ok c =
    let l = line_is c.args.bytes.now c.in_ok-line.line.now c.in_ok-line.rest.now c.in_ok-line.ensures in
    let fs = fields_of c.in_ok-line.line.now in
    let cost : ℕ × (ℤ × ℤ) = (c.args.i, (c.in_ok-cost.cost.num, c.in_ok-cost.cost.den)) in
    let read = line_ok (cost_at true c.args.i) (cost_at false c.args.i) c.args.bytes.now c.in_ok-line.line.now c.in_ok-line.rest.now cost l
    (placed_reads (λ (f : Fraction). (c.args.i, (f.num, f.den))) (cost_at true c.args.i fs)
    (cost_at false c.args.i fs) (length c.args.bytes.now) c.cost_line.result c.in_ok-cost.cost
    c.cost_line.ensures c.in_ok-cost.ensures) in
    bound_taken c.args.i (lines_of c.args.bytes.now) (lines_of c.in_ok-line.rest.now) (lines_of c.in-Ok.rest.now) cost (map node_of c.in-Ok.tree.nodes.items) read c.in-Ok.ensures
