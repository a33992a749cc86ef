use Rattle.zr_game.proofs.Checks.{Checked}
use Rattle.zr_source.specs.SourceForms.{IsFollowerCross}
use Rattle.zr_source.specs.Sources.{follower_of}
use Rattle.zr_source.proofs.followers.are_cross_terms.Given as goal

abbrev pub invariant-loop-own : goal.invariant-loop-own
invariant-loop-own l = Checked l.own-index (λ v t. IsFollowerCross (follower_of l.follower)
    l.columns t) l.cross l.all
