use Rattle.zr_game.proofs.Checks.{Checked}
use Rattle.zr_source.specs.SourceForms.{IsFollowerForm}
use Rattle.zr_source.specs.Sources.{follower_of}
use Rattle.zr_source.proofs.followers.are_followers.Given as goal

abbrev pub invariant-loop-follower : goal.invariant-loop-follower
invariant-loop-follower l = Checked l.follower-index
    (λ i f. IsFollowerForm l.columns (follower_of f)) l.followers l.all
