use Rattle.std.proofs.lemmas.Result.{err_from_is_err_and}
use Rattle.zr_form.proofs.Composing.{line_bad, line_ok}
use Rattle.zr_form.proofs.Placing.{first_stops}
use Rattle.zr_form.proofs.Walking.{line_is}
use Rattle.zr_form.specs.declared.fault.LineFault.TheVariants as faults
use Rattle.zr_form.specs.Reading.{Bytes}
use Rattle.zr_text.specs.Reader.{word_at}
use Rattle.zr_text.proofs.heading.take_word.Goals as goal

pub returns-in_err-line : goal.returns-in_err-line
returns-in_err-line c =
    let p = err_from_is_err_and c.from_residual.result c.from_residual.ensures.1 in
    rw (p.1, p.2) (first_stops (word_at c.args.name.now) (word_at c.args.name.now)
    c.args.bytes.now c.in_err-line.field-0.0 c.in_err-line.ensures)

pub returns-then-is_word : goal.returns-then-is_word
returns-then-is_word c =
    let l = line_is c.args.bytes.now c.in_ok-line.line.now c.in_ok-line.rest.now
    c.in_ok-line.ensures in
    (line_ok (word_at c.args.name.now) (word_at c.args.name.now) c.args.bytes.now
    c.in_ok-line.line.now c.in_ok-line.rest.now c.args.name.now l
    (c.if-is_word.ensures, c.if-is_word.ensures)).0

pub returns-else-is_word : goal.returns-else-is_word
returns-else-is_word c =
    let l = line_is c.args.bytes.now c.in_ok-line.line.now c.in_ok-line.rest.now
    c.in_ok-line.ensures in
    line_bad (λ (w : Bytes). w) (word_at c.args.name.now) (word_at c.args.name.now)
    c.args.bytes.now c.in_ok-line.line.now c.in_ok-line.rest.now faults.Form l
    (c.if-is_word.ensures, c.if-is_word.ensures)
