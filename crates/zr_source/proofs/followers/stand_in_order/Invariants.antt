use Rattle.zr_source.proofs.FormTests.{Standing}
use Rattle.zr_source.proofs.followers.stand_in_order.Given as goal

abbrev pub invariant-loop-k : goal.invariant-loop-k
invariant-loop-k l = Standing l.columns l.followers l.k l.all
