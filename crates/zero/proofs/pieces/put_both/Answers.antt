use Rattle.std.proofs.Common.{◌++◌, ap₂}
use Rattle.zero.proofs.WritingLemmas.{ok_then, err_then}
use Rattle.zero.proofs.pieces.put_both.Goals as goal

pub returns-clause-ok : goal.returns-clause-ok
returns-clause-ok g c =
    let join = ap₂ (λ p q. p ++ q) c.as_bytes.ensures.value c.as_bytes-2.ensures.value in
    ok_then (g.E.Sink.written c.args.err.now) (g.E.Sink.written c.put_all.new.sink) (g.E.Sink.written c.put_all-2.new.sink) c.as_bytes.result.now c.as_bytes-2.result.now _ join c.put_all-2.result
    c.in_ok-put_all.ensures.ok c.put_all-2.ensures.ok

pub returns-clause-err : goal.returns-clause-err
returns-clause-err g c =
    let join = ap₂ (λ p q. p ++ q) c.as_bytes.ensures.value c.as_bytes-2.ensures.value in
    err_then (g.E.Sink.written c.args.err.now) (g.E.Sink.written c.put_all.new.sink) (g.E.Sink.written c.put_all-2.new.sink) c.as_bytes.result.now c.as_bytes-2.result.now _ join c.put_all-2.result
    c.in_ok-put_all.ensures.ok c.put_all-2.ensures.err
