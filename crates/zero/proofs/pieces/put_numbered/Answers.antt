use Rattle.std.proofs.Common.{◌++◌, ap, ap₂, sym, ◌∙◌, append_assoc}
use Rattle.zr_form.specs.Numbers.{decimal}
use Rattle.zr_io.proofs.AppendsLemmas.{appends_append, appends_prefix_append}
use Rattle.zero.proofs.WritingLemmas.{err_then, first_prefix, ok_then, on_err}
use Rattle.zero.proofs.pieces.put_numbered.Goals as goal

pub returns-in_err-put_all-clause-err : goal.returns-in_err-put_all-clause-err
returns-in_err-put_all-clause-err g c =
    let digits = decimal c.args.number in
    let rest = digits ++ c.args.after.now in
    let join = ap (λ p. p ++ rest) c.as_bytes.ensures.value
    ∙ sym (append_assoc c.args.before.now digits c.args.after.now) in
    on_err c.from_residual.result _
    (first_prefix (g.E.Sink.written c.args.err.now) (g.E.Sink.written c.put_all.new.sink) c.as_bytes.result.now rest _ join c.in_err-put_all.ensures.err)

pub returns-in_err-put_number-clause-err : goal.returns-in_err-put_number-clause-err
returns-in_err-put_number-clause-err g c =
    let digits = decimal c.args.number in
    let before = g.E.Sink.written c.args.err.now in
    let after = g.E.Sink.written c.put_number.new.err in
    let two = appends_prefix_append before (g.E.Sink.written c.put_all.new.sink) after c.as_bytes.result.now digits c.in_ok-put_all.ensures.ok c.in_err-put_number.ensures.err in
    on_err c.from_residual-in_err-put_number.result _
    (first_prefix before after (c.as_bytes.result.now ++ digits) c.args.after.now _ (ap (λ p. (p ++ digits) ++ c.args.after.now) c.as_bytes.ensures.value) two)

pub returns-clause-ok : goal.returns-clause-ok
returns-clause-ok g c =
    let digits = decimal c.args.number in
    let before = g.E.Sink.written c.args.err.now in
    let middle = g.E.Sink.written c.put_number.new.err in
    let two = appends_append before (g.E.Sink.written c.put_all.new.sink) middle c.as_bytes.result.now digits c.in_ok-put_all.ensures.ok c.in_ok-put_number.ensures.ok in
    let join = ap₂ (λ p q. (p ++ digits) ++ q) c.as_bytes.ensures.value c.as_bytes-2.ensures.value in
    ok_then before middle (g.E.Sink.written c.put_all-2.new.sink) (c.as_bytes.result.now ++ digits) c.as_bytes-2.result.now _ join c.put_all-2.result two c.put_all-2.ensures.ok

pub returns-clause-err : goal.returns-clause-err
returns-clause-err g c =
    let digits = decimal c.args.number in
    let before = g.E.Sink.written c.args.err.now in
    let middle = g.E.Sink.written c.put_number.new.err in
    let two = appends_append before (g.E.Sink.written c.put_all.new.sink) middle c.as_bytes.result.now digits c.in_ok-put_all.ensures.ok c.in_ok-put_number.ensures.ok in
    let join = ap₂ (λ p q. (p ++ digits) ++ q) c.as_bytes.ensures.value c.as_bytes-2.ensures.value in
    err_then before middle (g.E.Sink.written c.put_all-2.new.sink) (c.as_bytes.result.now ++ digits) c.as_bytes-2.result.now _ join c.put_all-2.result two c.put_all-2.ensures.err
