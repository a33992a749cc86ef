use Rattle.std.proofs.Common.{arith, below_more}
use Rattle.zr_base.specs.Fractions.{IsSame}
use Rattle.zr_base.specs.Points.{value_of}
use Rattle.zr_tidy.proofs.Orderings.{same_points}
use Rattle.zr_tidy.proofs.point.order.Goals as goal

pub returns : goal.returns
returns c =
    let past = c.loop-v-test.false in
    let len = c.len-v-end.ensures in
    let left = rw c.den-left.ensures.value at c.den-left.ensures.positive in
    let right = rw c.den-right.ensures.value at c.den-right.ensures.positive in
    same_points c.args.left.now c.args.right.now left right c.requires
    (λ v h. c.loop-v.invariant v (omega (arith, h, past, len)))

pub loop-v-preserved : goal.loop-v-preserved
loop-v-preserved c =
    below_more (λ u. IsSame (value_of c.args.left.now u) (value_of c.args.right.now u)) c.loop-v.v
    c.loop-v.invariant c.in-Equal.ensures
