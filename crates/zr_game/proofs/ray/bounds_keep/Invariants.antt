use Rattle.zr_game.specs.Players.{var_of}
use Rattle.zr_game.specs.Rays.{KeepsBounds, change_of}
use Rattle.zr_game.proofs.Checks.{Checked}
use Rattle.zr_game.proofs.ray.bounds_keep.Given as goal

abbrev pub invariant-loop-v : goal.invariant-loop-v
invariant-loop-v l = Checked l.v (λ v var. KeepsBounds (var_of var) (change_of l.dir v)) l.vars
    l.all
