use Rattle.std.proofs.Common.{rules, ◌+◌, ◌*◌, arith}
use Rattle.zr_base.specs.Steps.{IsNarrow}
use Rattle.zr_simplex.proofs.Lists.{ascends_push}
use Rattle.zr_simplex.proofs.tests.made.made_row.Goals as goal

pub loop-part-preserved : goal.loop-part-preserved
loop-part-preserved c =
    let low = c.loop-part.part * c.args.shape.stride in
    let drawn = c.below.ensures in
    rw c.in_ok-push.ensures.items (ascends_push IsNarrow 0 low (low + c.below.result) ((c.loop-part.part + 1) * c.args.shape.stride) c.loop-part.coef.items _ (omega arith) (omega arith) (omega (arith, drawn)) c.loop-part.invariant (search rules))
