use Rattle.std.proofs.lemmas.Grind.{common_steps}
use Rattle.std.proofs.Common.{rules, arith, ◌++◌, ◌∷◌, [], codes, OnOk, OnErr, sym, subst}
use Rattle.zr_io.specs.Written.{Appends, AppendsPrefix}
use Rattle.zero.specs.Messages.{fault_line}
use Rattle.zero.proofs.WritingLemmas.{ok_then, err_then, first_prefix, on_err, fault_pieces}
use Rattle.zero.proofs.refusal.put_fault.Goals as goal

pub returns-in_err-put_named-in_default : goal.returns-in_err-put_named-in_default
returns-in_err-put_named-in_default g c = record {
  ok = search rules;
  err = on_err c.from_residual.result _
      (first_prefix (g.E.Sink.written c.args.err.now) (g.E.Sink.written c.put_named.new.err) ((codes "zero: game: " ++ c.name.result.now) ++ 32 ∷ []) (c.args.path.now ++ 10 ∷ []) _
      (fault_pieces c.args.fault c.args.path.now c.name.result.now c.in_default.not-NotJson c.name.ensures) c.in_err-put_named-in_default.ensures.err);
  failed = grind (arith, common_steps, c.in_err-put_named-in_default.was);
  grows = c.put_named.ensures.grows;
}

pub returns-in_ok-put_named-in_default : goal.returns-in_ok-put_named-in_default
returns-in_ok-put_named-in_default g c =
    let join = fault_pieces c.args.fault c.args.path.now c.name.result.now c.in_default.not-NotJson c.name.ensures in
    let front = (codes "zero: game: " ++ c.name.result.now) ++ 32 ∷ [] in
    let rest = c.args.path.now ++ 10 ∷ [] in
    record {
      ok = ok_then (g.E.Sink.written c.args.err.now) (g.E.Sink.written c.put_named.new.err) (g.E.Sink.written c.put_both.new.err) front rest _ join c.put_both.result c.in_ok-put_named-in_default.ensures.ok c.put_both.ensures.ok;
      err = err_then (g.E.Sink.written c.args.err.now) (g.E.Sink.written c.put_named.new.err) (g.E.Sink.written c.put_both.new.err) front rest _ join c.put_both.result c.in_ok-put_named-in_default.ensures.ok c.put_both.ensures.err;
      failed = grind (arith, common_steps);
      grows = search rules;
    }

pub returns-in-NotJson-clause-ok : goal.returns-in-NotJson-clause-ok
returns-in-NotJson-clause-ok g c =
    subst (λ fault. OnOk c.put_all.result (Appends (g.E.Sink.written c.args.err.now) (fault_line fault c.args.path.now) (g.E.Sink.written c.put_all.new.sink))) (sym c.in-NotJson.is) c.put_all.ensures.ok

pub returns-in-NotJson-clause-err : goal.returns-in-NotJson-clause-err
returns-in-NotJson-clause-err g c =
    subst (λ fault. OnErr c.put_all.result (AppendsPrefix (g.E.Sink.written c.args.err.now) (fault_line fault c.args.path.now) (g.E.Sink.written c.put_all.new.sink))) (sym c.in-NotJson.is) c.put_all.ensures.err
