use Rattle.std.proofs.Common.{◌≡◌, arith, true, false}
use Rattle.std.proofs.lemmas.Result.{err_from_is_err_and}
use Rattle.zr_cert.specs.Certs.{verdict_of}
use Rattle.zr_form.specs.Lines.{by_fields, lines_of}
use Rattle.zr_text.specs.Reader.{kind_at, word_at}
use Rattle.zr_text.proofs.Places.{cert_made}
use Rattle.zr_text.proofs.ReadingSteps.{cert_no_kind, cert_no_verdict, cert_no_word, cert_taken, cert_with}
use Rattle.zr_lines.proofs.TextSteps.{one_left}
use Rattle.zr_text.proofs.reading.take_cert.Goals as goal

pub returns-in_err-rest : goal.returns-in_err-rest
returns-in_err-rest c =
    let p = err_from_is_err_and c.from_residual.result c.from_residual.ensures.1 in
    let stopped = rw c.as_slice.ensures at c.in_err-rest.ensures in
    rw (p.1, p.2) (cert_no_word (lines_of c.args.bytes.now) c.in_err-rest.field-0.0 stopped)

pub returns-in_err-kind : goal.returns-in_err-kind
returns-in_err-kind c =
    let p = err_from_is_err_and c.from_residual-in_err-kind.result c.from_residual-in_err-kind.ensures.1 in
    let word = rw c.as_slice.ensures at c.in_ok-rest.ensures in
    rw (p.1, p.2) (cert_no_kind (lines_of c.args.bytes.now) (lines_of c.in_ok-rest.rest.now) word c.in_err-kind.field-0.0 c.in_err-kind.ensures)

pub take_verdict-requires : goal.take_verdict-requires
take_verdict-requires c =
    let first = one_left (by_fields (word_at c.as_slice.result.now)) c.args.bytes.now c.in_ok-rest.rest.now c.as_slice.result.now c.in_ok-rest.ensures in
    let second = one_left (by_fields (kind_at true)) c.in_ok-rest.rest.now c.in_ok-kind.rest.now (c.in_ok-kind.kind, c.in_ok-kind.players) c.in_ok-kind.ensures.0 in
    omega (arith, first, second, c.requires)

pub returns-in_err-verdict : goal.returns-in_err-verdict
returns-in_err-verdict c =
    let p = err_from_is_err_and c.from_residual-in_err-verdict.result c.from_residual-in_err-verdict.ensures.1 in
    let word = rw c.as_slice.ensures at c.in_ok-rest.ensures in
    rw (p.1, p.2) (cert_no_verdict (lines_of c.args.bytes.now) (lines_of c.in_ok-rest.rest.now) word (lines_of c.in_ok-kind.rest.now) (c.in_ok-kind.kind, c.in_ok-kind.players) c.in_err-verdict.field-0.0 c.in_ok-kind.ensures c.in_err-verdict.ensures)

pub unreachable-requires : goal.unreachable-requires
unreachable-requires c =
    let word = rw c.as_slice.ensures at c.in_ok-rest.ensures in
    let t = cert_taken (lines_of c.args.bytes.now) (lines_of c.in_ok-rest.rest.now) word (lines_of c.in_ok-kind.rest.now) (lines_of c.in_ok-verdict.rest.now) (c.in_ok-kind.kind, c.in_ok-kind.players) (verdict_of c.in_ok-verdict.verdict) c.in_ok-kind.ensures c.in_ok-verdict.ensures in
    let made = cert_made c.args.bytes.now (lines_of c.in_ok-verdict.rest.now) (cert_with (c.in_ok-kind.kind, c.in_ok-kind.players) (verdict_of c.in_ok-verdict.verdict)) c.requires t.0 in
    let e : false ≡ true = c.in-Err.ensures.valid.1 made in
    absurd cc

pub returns : goal.returns
returns c =
    let word = rw c.as_slice.ensures at c.in_ok-rest.ensures in
    rw c.in-Ok.ensures.ok (cert_taken (lines_of c.args.bytes.now) (lines_of c.in_ok-rest.rest.now) word (lines_of c.in_ok-kind.rest.now) (lines_of c.in_ok-verdict.rest.now) (c.in_ok-kind.kind, c.in_ok-kind.players) (verdict_of c.in_ok-verdict.verdict) c.in_ok-kind.ensures c.in_ok-verdict.ensures)
