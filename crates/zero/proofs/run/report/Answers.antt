use Rattle.std.proofs.Common.{rules, ◌∙◌, refl, inl, inr, subst}
use Rattle.zr_io.specs.Contents.{Bytes}
use Rattle.zr_io.specs.Written.{AppendsPrefix}
use Rattle.zero.proofs.run.report.Goals as goal

pub returns-in-Err-Failed-clause-reported : goal.returns-in-Err-Failed-clause-reported
returns-in-Err-Failed-clause-reported g c =
    let text = c.as_slice.ensures.value ∙ c.in-Ok.ensures in
    record {
      refusal_is = inr (inr refl);
      written = tt;
      begun = λ other. subst (λ (p : Bytes). AppendsPrefix (g.O.Sink.written c.args.out.now) p (g.O.Sink.written c.put_all.new.sink)) text c.in-Err-Failed.ensures.err;
      failed = λ e. c.put_all.ensures.failed (search rules);
    }

pub returns-clause-reported : goal.returns-clause-reported
returns-clause-reported g c =
    let text = c.as_slice.ensures.value ∙ c.in-Ok.ensures in
    record {
      refusal_is = inr (inl refl);
      written = tt;
      begun = λ other. subst (λ (p : Bytes). AppendsPrefix (g.O.Sink.written c.args.out.now) p (g.O.Sink.written c.put_all.new.sink)) text c.in-Err-NoMemory.ensures.err;
      failed = λ e. absurd cc;
    }
