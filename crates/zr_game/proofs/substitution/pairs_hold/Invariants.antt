use Rattle.zr_game.specs.Players.{pair_of}
use Rattle.zr_game.specs.Feasible.{PairHolds}
use Rattle.zr_game.specs.FeasibleSteps.{pair_wide}
use Rattle.zr_base.proofs.Telling.{Tested}
use Rattle.zr_game.proofs.substitution.pairs_hold.Given as goal

abbrev pub invariant-loop-pair : goal.invariant-loop-pair
invariant-loop-pair l = Tested l.pair-index (λ v pair. PairHolds l.point (pair_of pair))
    (λ pair. pair_wide l.point (pair_of pair)) l.pairs l.all
