use Rattle.std.proofs.Common.{arith}
use Rattle.zr_io.proofs.AppendsLemmas.{whole_rest, appends_more, appends_prefix_more}
use Rattle.zr_io.proofs.sink.put_all.Goals as goal

pub loop-at-preserved : goal.loop-at-preserved
loop-at-preserved g c = record {
  within = omega (arith, c.in-Ok.ensures.within);
  appended = appends_more (g.O.Sink.written c.args.sink.now) (g.O.Sink.written c.loop-at.sink) (g.O.Sink.written c.put.new.self) c.args.bytes.now c.loop-at.at c.in-Ok.n c.loop-at.invariant.appended (simp whole_rest at c.in-Ok.ensures.ok);
  grows = omega (arith, c.in-Ok.ensures.grows);
}

pub returns-in-Err-clause-err : goal.returns-in-Err-clause-err
returns-in-Err-clause-err g c = appends_prefix_more (g.O.Sink.written c.args.sink.now) (g.O.Sink.written c.loop-at.sink) (g.O.Sink.written c.put.new.self) c.args.bytes.now c.loop-at.at c.loop-at.invariant.appended (simp whole_rest at c.in-Err.ensures.err)
