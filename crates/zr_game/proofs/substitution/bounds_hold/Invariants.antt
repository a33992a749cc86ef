use Rattle.zr_base.specs.Points.{num_of}
use Rattle.zr_base.proofs.Telling.{Tested}
use Rattle.zr_game.specs.Players.{var_of}
use Rattle.zr_game.specs.Feasible.{IsWithin}
use Rattle.zr_game.specs.FeasibleSteps.{var_wide}
use Rattle.zr_game.proofs.substitution.bounds_hold.Given as goal

abbrev pub invariant-loop-v : goal.invariant-loop-v
invariant-loop-v l =
    Tested l.v (λ v var. IsWithin (var_of var) (num_of l.point v) l.point.den)
    (λ var. var_wide l.point.den (var_of var)) l.vars l.all
