use Rattle.zr_base.specs.Points.{value_of}
use Rattle.zr_tidy.proofs.Orderings.{value_order}
use Rattle.zr_tidy.proofs.point.order_at.Goals as goal

pub returns : goal.returns
returns c =
    value_order c.compare.result c.value.result c.value-2.result
    (value_of c.args.left.now c.args.v) (value_of c.args.right.now c.args.v) c.value.ensures.same
    c.value-2.ensures.same c.compare.ensures
