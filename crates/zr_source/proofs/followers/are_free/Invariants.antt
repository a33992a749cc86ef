use Rattle.std.proofs.Common.{◌≡◌, map}
use Rattle.zr_game.proofs.Checks.{Checked}
use Rattle.zr_game.specs.Players.{PlayerOf, var_of}
use Rattle.zr_source.specs.SourceForms.{AreFree}
use Rattle.zr_source.specs.Sources.{follower_of}
use Rattle.zr_source.proofs.followers.are_free.Given as goal

abbrev pub invariant-loop-follower : goal.invariant-loop-follower
invariant-loop-follower l =
    (base : PlayerOf) → base.vars ≡ map var_of l.vars
    → Checked l.follower-index (λ i f. AreFree base (follower_of f)) l.followers l.all
