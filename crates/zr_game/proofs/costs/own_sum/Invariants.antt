use Rattle.std.proofs.Common.{pos, take}
use Rattle.zr_base.specs.Fractions.{whole}
use Rattle.zr_base.specs.Points.{value_of}
use Rattle.zr_game.specs.Costs.{own_at}
use Rattle.zr_game.specs.CostSteps.{own_term}
use Rattle.zr_game.proofs.CostSums.{Summed}
use Rattle.zr_game.proofs.costs.own_sum.Given as goal

abbrev pub invariant-loop-v : goal.invariant-loop-v
invariant-loop-v l =
    Summed (own_term l.point) (own_at (value_of l.point)) (whole (pos 0)) (take l.v-index l.cost)
    l.sum
