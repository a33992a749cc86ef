use Rattle.std.proofs.Common.{length, true, false}
use Rattle.std.proofs.lemmas.Result.{err_from_is_err_and}
use Rattle.zr_form.specs.Lines.{fields_of}
use Rattle.zr_form.proofs.Composing.{line_ok}
use Rattle.zr_form.proofs.Placing.{first_stops, placed_reads, placed_stops}
use Rattle.zr_form.proofs.Walking.{line_is}
use Rattle.zr_text.specs.Code.{verdict_line_of}
use Rattle.zr_text.specs.Reader.{verdict_line_at}
use Rattle.zr_text.proofs.heading.take_verdict_line.Goals as goal

pub returns-in_err-line : goal.returns-in_err-line
returns-in_err-line c =
    let p = err_from_is_err_and c.from_residual.result c.from_residual.ensures.1 in
    rw (p.1, p.2) (first_stops (verdict_line_at true) (verdict_line_at false) c.args.bytes.now
    c.in_err-line.field-0.0 c.in_err-line.ensures)

pub returns-in_err-said : goal.returns-in_err-said
returns-in_err-said c =
    let p = err_from_is_err_and c.from_residual-in_err-said.result
    c.from_residual-in_err-said.ensures.1 in
    let l = line_is c.args.bytes.now c.in_ok-line.line.now c.in_ok-line.rest.now
    c.in_ok-line.ensures in
    rw (p.1, p.2) (placed_stops verdict_line_of (verdict_line_at true) (verdict_line_at false)
    c.args.bytes.now c.in_ok-line.line.now c.in_ok-line.rest.now c.verdict_line.result
    c.in_err-said.field-0.0 l c.verdict_line.ensures c.in_err-said.ensures)

pub returns : goal.returns
returns c =
    let l = line_is c.args.bytes.now c.in_ok-line.line.now c.in_ok-line.rest.now
    c.in_ok-line.ensures in
    let fs = fields_of c.in_ok-line.line.now in
    line_ok (verdict_line_at true) (verdict_line_at false) c.args.bytes.now c.in_ok-line.line.now
    c.in_ok-line.rest.now (verdict_line_of c.in_ok-said.said) l
    (placed_reads verdict_line_of (verdict_line_at true fs) (verdict_line_at false fs)
    (length c.args.bytes.now) c.verdict_line.result c.in_ok-said.said
    c.verdict_line.ensures c.in_ok-said.ensures)
