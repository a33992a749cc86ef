use Rattle.zr_game.proofs.Checks.{Checked}
use Rattle.zr_game.specs.Players.{var_of}
use Rattle.zr_source.proofs.FormTests.{IsFreeAt}
use Rattle.zr_source.specs.Sources.{follower_of}
use Rattle.zr_source.proofs.followers.is_free.Given as goal

abbrev pub invariant-loop-v : goal.invariant-loop-v
invariant-loop-v l =
    Checked l.v (λ v var. IsFreeAt (follower_of l.follower) v (var_of var)) l.vars l.all
