use Rattle.std.proofs.Common.{◌≡◌, ap, codes, sym, ◌∙◌, ⊎_elim}
use Rattle.zero.specs.Messages.{end_line, message}
use Rattle.zero.proofs.WritingLemmas.{budget_pieces, err_same, large_pieces, ok_same}
use Rattle.zero.proofs.ended.put_end.Goals as goal

pub returns-in-Budget-clause-ok : goal.returns-in-Budget-clause-ok
returns-in-Budget-clause-ok g c =
    ok_same (g.E.Sink.written c.args.err.now) (g.E.Sink.written c.put_numbered.new.err) _ _ c.put_numbered.result (budget_pieces c.in-Budget.limit ∙ ap end_line (sym c.in-Budget.is)) c.put_numbered.ensures.ok

pub returns-in-Budget-clause-err : goal.returns-in-Budget-clause-err
returns-in-Budget-clause-err g c =
    err_same (g.E.Sink.written c.args.err.now) (g.E.Sink.written c.put_numbered.new.err) _ _ c.put_numbered.result (budget_pieces c.in-Budget.limit ∙ ap end_line (sym c.in-Budget.is)) c.put_numbered.ensures.err

pub returns-in-Open-clause-ok : goal.returns-in-Open-clause-ok
returns-in-Open-clause-ok g c =
    ok_same (g.E.Sink.written c.args.err.now) (g.E.Sink.written c.put_open.new.err) _ _ c.put_open.result (ap end_line (sym c.in-Open.is)) c.put_open.ensures.ok

pub returns-in-Open-clause-err : goal.returns-in-Open-clause-err
returns-in-Open-clause-err g c =
    err_same (g.E.Sink.written c.args.err.now) (g.E.Sink.written c.put_open.new.err) _ _ c.put_open.result (ap end_line (sym c.in-Open.is)) c.put_open.ensures.err

pub returns-in-Large-clause-ok : goal.returns-in-Large-clause-ok
returns-in-Large-clause-ok g c =
    ok_same (g.E.Sink.written c.args.err.now) (g.E.Sink.written c.put_numbered-in-Large.new.err) _ _ c.put_numbered-in-Large.result (large_pieces c.in-Large.cells ∙ ap end_line (sym c.in-Large.is)) c.put_numbered-in-Large.ensures.ok

pub returns-in-Large-clause-err : goal.returns-in-Large-clause-err
returns-in-Large-clause-err g c =
    err_same (g.E.Sink.written c.args.err.now) (g.E.Sink.written c.put_numbered-in-Large.new.err) _ _ c.put_numbered-in-Large.result (large_pieces c.in-Large.cells ∙ ap end_line (sym c.in-Large.is)) c.put_numbered-in-Large.ensures.err

pub returns-in-Long-clause-ok : goal.returns-in-Long-clause-ok
returns-in-Long-clause-ok g c =
    ok_same (g.E.Sink.written c.args.err.now) (g.E.Sink.written c.put_numbered-in-Long.new.err) _ _ c.put_numbered-in-Long.result (large_pieces c.in-Long.bytes ∙ ap end_line (sym c.in-Long.is)) c.put_numbered-in-Long.ensures.ok

pub returns-in-Long-clause-err : goal.returns-in-Long-clause-err
returns-in-Long-clause-err g c =
    err_same (g.E.Sink.written c.args.err.now) (g.E.Sink.written c.put_numbered-in-Long.new.err) _ _ c.put_numbered-in-Long.result (large_pieces c.in-Long.bytes ∙ ap end_line (sym c.in-Long.is)) c.put_numbered-in-Long.ensures.err

pub returns-in-Stuck-clause-ok : goal.returns-in-Stuck-clause-ok
returns-in-Stuck-clause-ok g c =
    let line : message (codes "too wide") ≡ end_line c.args.end.now =
    ⊎_elim (λ h. ap end_line (sym h.1))
    (λ h. ⊎_elim (λ w. ap end_line (sym w.1)) (λ k. ap end_line (sym k.2)) h) c.in-Stuck.is in
    ok_same (g.E.Sink.written c.args.err.now) (g.E.Sink.written c.put_all.new.sink) _ _ c.put_all.result line c.put_all.ensures.ok

pub returns-in-Stuck-clause-err : goal.returns-in-Stuck-clause-err
returns-in-Stuck-clause-err g c =
    let line : message (codes "too wide") ≡ end_line c.args.end.now =
    ⊎_elim (λ h. ap end_line (sym h.1))
    (λ h. ⊎_elim (λ w. ap end_line (sym w.1)) (λ k. ap end_line (sym k.2)) h) c.in-Stuck.is in
    err_same (g.E.Sink.written c.args.err.now) (g.E.Sink.written c.put_all.new.sink) _ _ c.put_all.result line c.put_all.ensures.err
