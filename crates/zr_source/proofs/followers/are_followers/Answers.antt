use Rattle.std.proofs.Common.{arith}
use Rattle.zr_game.proofs.Checks.{all_checked, all_mapped, more_checked, none_checked}
use Rattle.zr_source.specs.SourceForms.{IsFollowerForm}
use Rattle.zr_source.specs.Sources.{follower_of}
use Rattle.zr_source.proofs.followers.are_followers.Goals as goal

pub loop-follower-init : goal.loop-follower-init
loop-follower-init c = none_checked (λ i f. IsFollowerForm c.args.columns (follower_of f))
    c.args.followers.now

pub loop-follower-preserved : goal.loop-follower-preserved
loop-follower-preserved c =
    more_checked (λ i f. IsFollowerForm c.args.columns (follower_of f)) c.args.followers.now
    c.loop-follower.follower-index c.follower-item.result c.loop-follower-test.true
    c.follower-item.is c.loop-follower.all c.loop-follower.invariant c.is_follower-all.result
    c.is_follower-all.ensures

pub returns : goal.returns
returns c =
    all_mapped follower_of (IsFollowerForm c.args.columns) c.args.followers.now c.loop-follower.all
    (all_checked (λ i f. IsFollowerForm c.args.columns (follower_of f)) c.args.followers.now
    c.loop-follower.follower-index c.loop-follower.all (omega arith) (omega arith)
    c.loop-follower.invariant)
