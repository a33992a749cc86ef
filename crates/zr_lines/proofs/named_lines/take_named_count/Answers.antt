use Rattle.std.proofs.Common.{ℕ, length, true, false}
use Rattle.std.proofs.lemmas.Result.{err_from_is_err_and}
use Rattle.zr_form.specs.Lines.{fields_of}
use Rattle.zr_form.proofs.Composing.{line_ok}
use Rattle.zr_form.proofs.Placing.{first_stops, placed_reads, placed_stops}
use Rattle.zr_form.proofs.Walking.{line_is}
use Rattle.zr_lines.specs.Reader.{named_count_at}
use Rattle.zr_lines.proofs.named_lines.take_named_count.Goals as goal

pub returns-in_err-line : goal.returns-in_err-line
returns-in_err-line c =
    let p = err_from_is_err_and c.from_residual.result c.from_residual.ensures.1 in
    rw (p.1, p.2) (first_stops (named_count_at true) (named_count_at false) c.args.bytes.now
    c.in_err-line.field-0.0 c.in_err-line.ensures)

pub returns-in_err-count : goal.returns-in_err-count
returns-in_err-count c =
    let p = err_from_is_err_and c.from_residual-in_err-count.result
    c.from_residual-in_err-count.ensures.1 in
    let l = line_is c.args.bytes.now c.in_ok-line.line.now c.in_ok-line.rest.now
    c.in_ok-line.ensures in
    rw (p.1, p.2) (placed_stops (λ (n : ℕ). n) (named_count_at true) (named_count_at false)
    c.args.bytes.now c.in_ok-line.line.now c.in_ok-line.rest.now c.named_count_line.result
    c.in_err-count.field-0.0 l c.named_count_line.ensures c.in_err-count.ensures)

pub returns : goal.returns
returns c =
    let l = line_is c.args.bytes.now c.in_ok-line.line.now c.in_ok-line.rest.now
    c.in_ok-line.ensures in
    let fs = fields_of c.in_ok-line.line.now in
    line_ok (named_count_at true) (named_count_at false) c.args.bytes.now c.in_ok-line.line.now
    c.in_ok-line.rest.now c.in_ok-count.count l
    (placed_reads (λ (n : ℕ). n) (named_count_at true fs) (named_count_at false fs)
    (length c.args.bytes.now) c.named_count_line.result c.in_ok-count.count
    c.named_count_line.ensures c.in_ok-count.ensures)
