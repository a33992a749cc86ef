use Rattle.std.proofs.Common.{◌++◌, ap}
use Rattle.zero.proofs.WritingLemmas.{ok_then, err_then}
use Rattle.zero.proofs.pieces.put_named.Goals as goal

pub returns-clause-ok : goal.returns-clause-ok
returns-clause-ok g c =
    let front = c.args.before.now ++ c.args.name.now in
    ok_then (g.E.Sink.written c.args.err.now) (g.E.Sink.written c.put_both.new.err) (g.E.Sink.written c.put_all.new.sink) front c.as_bytes.result.now _ (ap (λ q. front ++ q) c.as_bytes.ensures.value) c.put_all.result
    c.in_ok-put_both.ensures.ok c.put_all.ensures.ok

pub returns-clause-err : goal.returns-clause-err
returns-clause-err g c =
    let front = c.args.before.now ++ c.args.name.now in
    err_then (g.E.Sink.written c.args.err.now) (g.E.Sink.written c.put_both.new.err) (g.E.Sink.written c.put_all.new.sink) front c.as_bytes.result.now _ (ap (λ q. front ++ q) c.as_bytes.ensures.value) c.put_all.result
    c.in_ok-put_both.ensures.ok c.put_all.ensures.err
