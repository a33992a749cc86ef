use Rattle.std.proofs.Common.{rules, ◌≡◌, ℕ, ◌+◌, ◌<◌, ap, ◌∙◌, length, subst, true, false}
use Rattle.zr_cert.specs.Listed.{cert_of}
use Rattle.zr_form.specs.Lines.{lines_of}
use Rattle.zr_form.specs.declared.fault.ReadError.{ReadError}
use Rattle.zr_form.specs.Stops.{Stopped}
use Rattle.zr_text.specs.Reader.{cert_read}
use Rattle.zr_text.proofs.Places.{number_fault, stopped_fault, stopped_place, text_ended, trailing_fault, trailing_place}
use Rattle.zr_text.specs.declared.fault.TextError.TheVariants.{NotCert, NumberTooBig}
use Rattle.zr_text.proofs.Top.{text_has_no_fault}
use Rattle.zr_text.proofs.reading.read_cert.Goals as goal

pub line_number-requires-clause-within : goal.line_number-requires-clause-within
line_number-requires-clause-within c = (trailing_place c.args.bytes.now c.in-Ok.rest.now (cert_of c.in-Ok.cert) c.requires c.in-Ok.ensures.0).within

pub line_number-requires-clause-few : goal.line_number-requires-clause-few
line_number-requires-clause-few c = (trailing_place c.args.bytes.now c.in-Ok.rest.now (cert_of c.in-Ok.cert) c.requires c.in-Ok.ensures.0).few

pub line_number-requires-in-Err-Form-clause-within : goal.line_number-requires-in-Err-Form-clause-within
line_number-requires-in-Err-Form-clause-within c = let s = subst (λ (e : ReadError). Stopped e (cert_read true (lines_of c.args.bytes.now)) (cert_read false (lines_of c.args.bytes.now))) c.in-Err-Form.field-0-is c.in-Err-Form.ensures in (stopped_place c.args.bytes.now s.0 c.in-Err-Form.left c.requires s.1 s.3).within

pub line_number-requires-in-Err-Form-clause-few : goal.line_number-requires-in-Err-Form-clause-few
line_number-requires-in-Err-Form-clause-few c = let s = subst (λ (e : ReadError). Stopped e (cert_read true (lines_of c.args.bytes.now)) (cert_read false (lines_of c.args.bytes.now))) c.in-Err-Form.field-0-is c.in-Err-Form.ensures in (stopped_place c.args.bytes.now s.0 c.in-Err-Form.left c.requires s.1 s.3).few

pub line_number-requires-in-Err-Number-clause-within : goal.line_number-requires-in-Err-Number-clause-within
line_number-requires-in-Err-Number-clause-within c = let s = subst (λ (e : ReadError). Stopped e (cert_read true (lines_of c.args.bytes.now)) (cert_read false (lines_of c.args.bytes.now))) c.in-Err-Number.field-0-is c.in-Err-Number.ensures in (stopped_place c.args.bytes.now s.0 c.in-Err-Number.left c.requires s.1 s.3).within

pub line_number-requires-in-Err-Number-clause-few : goal.line_number-requires-in-Err-Number-clause-few
line_number-requires-in-Err-Number-clause-few c = let s = subst (λ (e : ReadError). Stopped e (cert_read true (lines_of c.args.bytes.now)) (cert_read false (lines_of c.args.bytes.now))) c.in-Err-Number.field-0-is c.in-Err-Number.ensures in (stopped_place c.args.bytes.now s.0 c.in-Err-Number.left c.requires s.1 s.3).few

pub returns-then-is_empty-clause-ok : goal.returns-then-is_empty-clause-ok
returns-then-is_empty-clause-ok c =
    let none : length c.in-Ok.rest.now ≡ 0 = search rules in
    text_ended c.args.bytes.now c.in-Ok.rest.now (cert_of c.in-Ok.cert) none c.in-Ok.ensures.0

pub returns-else-is_empty-clause-err : goal.returns-else-is_empty-clause-err
returns-else-is_empty-clause-err c =
    let some : 0 < length c.in-Ok.rest.now = search rules in
    let line = (trailing_place c.args.bytes.now c.in-Ok.rest.now (cert_of c.in-Ok.cert) c.requires c.in-Ok.ensures.0).line in
    trailing_fault c.args.bytes.now c.in-Ok.rest.now (cert_of c.in-Ok.cert) c.line_number.result c.in-Ok.ensures.0 some (ap (λ (n : ℕ). n + length (lines_of c.in-Ok.rest.now)) c.line_number.ensures ∙ line)

pub returns-in-Err-Form-clause-err : goal.returns-in-Err-Form-clause-err
returns-in-Err-Form-clause-err c =
    let s = subst (λ (e : ReadError). Stopped e (cert_read true (lines_of c.args.bytes.now)) (cert_read false (lines_of c.args.bytes.now))) c.in-Err-Form.field-0-is c.in-Err-Form.ensures in
    let line = (stopped_place c.args.bytes.now s.0 c.in-Err-Form.left c.requires s.1 s.3).line in
    stopped_fault c.args.bytes.now s.0 c.line_number-in-Err-Form.result s.1 s.2 (ap (λ (n : ℕ). n + length s.0) c.line_number-in-Err-Form.ensures ∙ line)

pub returns-in-Err-Number-clause-err : goal.returns-in-Err-Number-clause-err
returns-in-Err-Number-clause-err c =
    let s = subst (λ (e : ReadError). Stopped e (cert_read true (lines_of c.args.bytes.now)) (cert_read false (lines_of c.args.bytes.now))) c.in-Err-Number.field-0-is c.in-Err-Number.ensures in
    let line = (stopped_place c.args.bytes.now s.0 c.in-Err-Number.left c.requires s.1 s.3).line in
    number_fault c.args.bytes.now s.0 c.line_number-in-Err-Number.result s.1 s.2 (ap (λ (n : ℕ). n + length s.0) c.line_number-in-Err-Number.ensures ∙ line)

pub returns-else-is_empty-clause-only : goal.returns-else-is_empty-clause-only
returns-else-is_empty-clause-only c = λ d text. text_has_no_fault d c.args.bytes.now text (NotCert c.line_number.result) (returns-else-is_empty-clause-err c)

pub returns-in-Err-Form-clause-only : goal.returns-in-Err-Form-clause-only
returns-in-Err-Form-clause-only c = λ d text. text_has_no_fault d c.args.bytes.now text (NotCert c.line_number-in-Err-Form.result) (returns-in-Err-Form-clause-err c)

pub returns-in-Err-Number-clause-only : goal.returns-in-Err-Number-clause-only
returns-in-Err-Number-clause-only c = λ d text. text_has_no_fault d c.args.bytes.now text (NumberTooBig c.line_number-in-Err-Number.result) (returns-in-Err-Number-clause-err c)
