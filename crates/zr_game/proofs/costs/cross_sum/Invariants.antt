use Rattle.std.proofs.Common.{take}
use Rattle.zr_game.specs.CostSteps.{cross_term}
use Rattle.zr_game.specs.CostTerms.{cross_value}
use Rattle.zr_game.proofs.CostSums.{Summed}
use Rattle.zr_game.proofs.costs.cross_sum.Given as goal

abbrev pub invariant-loop-t : goal.invariant-loop-t
invariant-loop-t l = Summed (cross_term l.i l.points) (cross_value l.i l.points) l.fn.start
    (take l.t-index l.cross) l.sum
