use Rattle.std.proofs.Common.{◌++◌, codes, ap, sym, ◌∙◌}
use Rattle.zr_io.specs.Contents.{Bytes}
use Rattle.zero.specs.Messages.{fault_line}
use Rattle.zero.specs.Refusals.{line_of}
use Rattle.zero.proofs.WritingLemmas.{ok_same, err_same, long_pieces}
use Rattle.zero.proofs.refusal.Refusal.say.Goals as goal

pub returns-in-CannotRead-clause-ok : goal.returns-in-CannotRead-clause-ok
returns-in-CannotRead-clause-ok g c =
    ok_same (g.E.Sink.written c.args.err.now) (g.E.Sink.written c.put_named.new.err) _ _ c.put_named.result (ap line_of (sym c.in-CannotRead.is)) c.put_named.ensures.ok

pub returns-in-CannotRead-clause-err : goal.returns-in-CannotRead-clause-err
returns-in-CannotRead-clause-err g c =
    err_same (g.E.Sink.written c.args.err.now) (g.E.Sink.written c.put_named.new.err) _ _ c.put_named.result (ap line_of (sym c.in-CannotRead.is)) c.put_named.ensures.err

pub returns-in-TooLong-clause-ok : goal.returns-in-TooLong-clause-ok
returns-in-TooLong-clause-ok g c =
    let pieces = ap (λ (end : Bytes). (codes "zero: " ++ c.in-TooLong.name.now) ++ end) c.excess.ensures ∙ long_pieces c.in-TooLong.text c.in-TooLong.name.now in
    ok_same (g.E.Sink.written c.args.err.now) (g.E.Sink.written c.put_named-in-TooLong.new.err) _ _ c.put_named-in-TooLong.result (pieces ∙ ap line_of (sym c.in-TooLong.is)) c.put_named-in-TooLong.ensures.ok

pub returns-in-TooLong-clause-err : goal.returns-in-TooLong-clause-err
returns-in-TooLong-clause-err g c =
    let pieces = ap (λ (end : Bytes). (codes "zero: " ++ c.in-TooLong.name.now) ++ end) c.excess.ensures ∙ long_pieces c.in-TooLong.text c.in-TooLong.name.now in
    err_same (g.E.Sink.written c.args.err.now) (g.E.Sink.written c.put_named-in-TooLong.new.err) _ _ c.put_named-in-TooLong.result (pieces ∙ ap line_of (sym c.in-TooLong.is)) c.put_named-in-TooLong.ensures.err

pub returns-in-Faulty-clause-ok : goal.returns-in-Faulty-clause-ok
returns-in-Faulty-clause-ok g c =
    ok_same (g.E.Sink.written c.args.err.now) (g.E.Sink.written c.put_fault.new.err) _ _ c.put_fault.result (ap (fault_line c.in-Faulty.fault) c.as_str.ensures.value ∙ ap line_of (sym c.in-Faulty.is)) c.put_fault.ensures.ok

pub returns-in-Faulty-clause-err : goal.returns-in-Faulty-clause-err
returns-in-Faulty-clause-err g c =
    err_same (g.E.Sink.written c.args.err.now) (g.E.Sink.written c.put_fault.new.err) _ _ c.put_fault.result (ap (fault_line c.in-Faulty.fault) c.as_str.ensures.value ∙ ap line_of (sym c.in-Faulty.is)) c.put_fault.ensures.err

pub returns-in-NoMemory-clause-ok : goal.returns-in-NoMemory-clause-ok
returns-in-NoMemory-clause-ok g c =
    ok_same (g.E.Sink.written c.args.err.now) (g.E.Sink.written c.put_all.new.sink) _ _ c.put_all.result (ap line_of (sym c.in-NoMemory.is)) c.put_all.ensures.ok

pub returns-in-NoMemory-clause-err : goal.returns-in-NoMemory-clause-err
returns-in-NoMemory-clause-err g c =
    err_same (g.E.Sink.written c.args.err.now) (g.E.Sink.written c.put_all.new.sink) _ _ c.put_all.result (ap line_of (sym c.in-NoMemory.is)) c.put_all.ensures.err

pub returns-in-WriteFault-clause-ok : goal.returns-in-WriteFault-clause-ok
returns-in-WriteFault-clause-ok g c =
    ok_same (g.E.Sink.written c.args.err.now) (g.E.Sink.written c.put_all-in-WriteFault.new.sink) _ _ c.put_all-in-WriteFault.result (ap line_of (sym c.in-WriteFault.is)) c.put_all-in-WriteFault.ensures.ok

pub returns-in-WriteFault-clause-err : goal.returns-in-WriteFault-clause-err
returns-in-WriteFault-clause-err g c =
    err_same (g.E.Sink.written c.args.err.now) (g.E.Sink.written c.put_all-in-WriteFault.new.sink) _ _ c.put_all-in-WriteFault.result (ap line_of (sym c.in-WriteFault.is)) c.put_all-in-WriteFault.ensures.err

pub returns-in-Flawed-clause-ok : goal.returns-in-Flawed-clause-ok
returns-in-Flawed-clause-ok g c =
    ok_same (g.E.Sink.written c.args.err.now) (g.E.Sink.written c.put_flaw.new.err) _ _ c.put_flaw.result (ap line_of (sym c.in-Flawed.is)) c.put_flaw.ensures.ok

pub returns-in-Flawed-clause-err : goal.returns-in-Flawed-clause-err
returns-in-Flawed-clause-err g c =
    err_same (g.E.Sink.written c.args.err.now) (g.E.Sink.written c.put_flaw.new.err) _ _ c.put_flaw.result (ap line_of (sym c.in-Flawed.is)) c.put_flaw.ensures.err
