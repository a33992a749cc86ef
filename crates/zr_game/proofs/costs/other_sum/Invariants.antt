use Rattle.std.proofs.Common.{take}
use Rattle.zr_game.specs.CostSteps.{other_term}
use Rattle.zr_game.specs.CostTerms.{other_value}
use Rattle.zr_game.proofs.CostSums.{Summed}
use Rattle.zr_game.proofs.costs.other_sum.Given as goal

abbrev pub invariant-loop-t : goal.invariant-loop-t
invariant-loop-t l = Summed (other_term l.points) (other_value l.points) l.fn.start
    (take l.t-index l.others) l.sum
