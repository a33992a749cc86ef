use Rattle.std.proofs.Common.{◌++◌, codes}
use Rattle.zr_form.specs.Numbers.{decimal}
use Rattle.zero.proofs.WritingLemmas.{err_then, first_prefix, ok_then, on_err, open_pieces}
use Rattle.zero.proofs.ended.put_open.Goals as goal

pub returns-in_err-put_numbered-clause-err : goal.returns-in_err-put_numbered-clause-err
returns-in_err-put_numbered-clause-err g c =
    let front = codes "zero: open: player " ++ decimal c.args.player ++ codes " variable " in
    let rest = codes "" ++ decimal c.args.var ++ codes "\n" in
    on_err c.from_residual.result _
    (first_prefix (g.E.Sink.written c.args.err.now) (g.E.Sink.written c.put_numbered.new.err) front rest _ (open_pieces c.args.player c.args.var) c.in_err-put_numbered.ensures.err)

pub returns-clause-ok : goal.returns-clause-ok
returns-clause-ok g c =
    let front = codes "zero: open: player " ++ decimal c.args.player ++ codes " variable " in
    let rest = codes "" ++ decimal c.args.var ++ codes "\n" in
    ok_then (g.E.Sink.written c.args.err.now) (g.E.Sink.written c.put_numbered.new.err) (g.E.Sink.written c.put_numbered-2.new.err) front rest _ (open_pieces c.args.player c.args.var) c.put_numbered-2.result
    c.in_ok-put_numbered.ensures.ok c.put_numbered-2.ensures.ok

pub returns-clause-err : goal.returns-clause-err
returns-clause-err g c =
    let front = codes "zero: open: player " ++ decimal c.args.player ++ codes " variable " in
    let rest = codes "" ++ decimal c.args.var ++ codes "\n" in
    err_then (g.E.Sink.written c.args.err.now) (g.E.Sink.written c.put_numbered.new.err) (g.E.Sink.written c.put_numbered-2.new.err) front rest _ (open_pieces c.args.player c.args.var) c.put_numbered-2.result
    c.in_ok-put_numbered.ensures.ok c.put_numbered-2.ensures.err
