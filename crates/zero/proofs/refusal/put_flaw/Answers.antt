use Rattle.std.proofs.Common.{◌++◌, ◌∷◌, [], codes, refl}
use Rattle.zr_form.specs.Numbers.{decimal}
use Rattle.zr_io.proofs.AppendsLemmas.{appends_append, appends_prefix_append}
use Rattle.zero.specs.Messages.{flaw_name}
use Rattle.zero.proofs.WritingLemmas.{err_then, first_prefix, flaw_pieces, flaw_start, ok_then, on_err}
use Rattle.zero.proofs.refusal.put_flaw.Goals as goal

pub returns-in_err-put_all-clause-err : goal.returns-in_err-put_all-clause-err
returns-in_err-put_all-clause-err g c =
    on_err c.from_residual.result _
    (first_prefix (g.E.Sink.written c.args.err.now) (g.E.Sink.written c.put_all.new.sink) (codes "zero: certificate: line ") (decimal c.args.line ++ ((codes ": " ++ flaw_name c.args.flaw) ++ 10 ∷ [])) _ (flaw_start c.args.line c.args.flaw) c.in_err-put_all.ensures.err)

pub returns-in_err-put_number-clause-err : goal.returns-in_err-put_number-clause-err
returns-in_err-put_number-clause-err g c =
    let before = g.E.Sink.written c.args.err.now in
    let after = g.E.Sink.written c.put_number.new.err in
    let two = appends_prefix_append before (g.E.Sink.written c.put_all.new.sink) after (codes "zero: certificate: line ") (decimal c.args.line) c.in_ok-put_all.ensures.ok c.in_err-put_number.ensures.err in
    on_err c.from_residual-in_err-put_number.result _
    (first_prefix before after (codes "zero: certificate: line " ++ decimal c.args.line) ((codes ": " ++ flaw_name c.args.flaw) ++ 10 ∷ []) _ (flaw_pieces c.args.line c.args.flaw (flaw_name c.args.flaw) refl) two)

pub returns-clause-ok : goal.returns-clause-ok
returns-clause-ok g c =
    let before = g.E.Sink.written c.args.err.now in
    let middle = g.E.Sink.written c.put_number.new.err in
    let two = appends_append before (g.E.Sink.written c.put_all.new.sink) middle (codes "zero: certificate: line ") (decimal c.args.line) c.in_ok-put_all.ensures.ok c.in_ok-put_number.ensures.ok in
    ok_then before middle (g.E.Sink.written c.put_named.new.err) (codes "zero: certificate: line " ++ decimal c.args.line) ((codes ": " ++ c.name.result.now) ++ 10 ∷ []) _ (flaw_pieces c.args.line c.args.flaw c.name.result.now c.name.ensures) c.put_named.result two c.put_named.ensures.ok

pub returns-clause-err : goal.returns-clause-err
returns-clause-err g c =
    let before = g.E.Sink.written c.args.err.now in
    let middle = g.E.Sink.written c.put_number.new.err in
    let two = appends_append before (g.E.Sink.written c.put_all.new.sink) middle (codes "zero: certificate: line ") (decimal c.args.line) c.in_ok-put_all.ensures.ok c.in_ok-put_number.ensures.ok in
    err_then before middle (g.E.Sink.written c.put_named.new.err) (codes "zero: certificate: line " ++ decimal c.args.line) ((codes ": " ++ c.name.result.now) ++ 10 ∷ []) _ (flaw_pieces c.args.line c.args.flaw c.name.result.now c.name.ensures) c.put_named.result two c.put_named.ensures.err
