use Rattle.zr_base.proofs.Telling.{Tested}
use Rattle.zr_game.specs.Players.{pair_of}
use Rattle.zr_game.specs.Rays.{KeepsPair}
use Rattle.zr_game.specs.RaySteps.{along_wide}
use Rattle.zr_game.proofs.ray.pairs_keep.Given as goal

abbrev pub invariant-loop-pair : goal.invariant-loop-pair
invariant-loop-pair l =
    Tested l.pair-index (λ v pair. KeepsPair l.base l.dir (pair_of pair))
    (λ pair. along_wide l.dir (pair_of pair).coef) l.pairs l.all
