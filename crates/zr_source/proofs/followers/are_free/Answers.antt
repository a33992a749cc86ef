use Rattle.std.proofs.Common.{arith}
use Rattle.zr_game.proofs.Checks.{all_checked, all_mapped, more_checked, none_checked}
use Rattle.zr_source.specs.SourceForms.{AreFree}
use Rattle.zr_source.specs.Sources.{follower_of}
use Rattle.zr_source.proofs.followers.are_free.Goals as goal

pub loop-follower-init : goal.loop-follower-init
loop-follower-init c base e = none_checked (λ i f. AreFree base (follower_of f))
    c.args.followers.now

pub loop-follower-preserved : goal.loop-follower-preserved
loop-follower-preserved c base e =
    more_checked (λ i f. AreFree base (follower_of f)) c.args.followers.now
    c.loop-follower.follower-index c.follower-item.result c.loop-follower-test.true
    c.follower-item.is c.loop-follower.all (c.loop-follower.invariant base e)
    c.is_free-all.result (c.is_free-all.ensures base e)

pub returns : goal.returns
returns c base e =
    all_mapped follower_of (AreFree base) c.args.followers.now c.loop-follower.all
    (all_checked (λ i f. AreFree base (follower_of f)) c.args.followers.now
    c.loop-follower.follower-index c.loop-follower.all (omega arith) (omega arith)
    (c.loop-follower.invariant base e))
