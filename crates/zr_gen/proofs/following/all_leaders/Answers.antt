use Rattle.zr_source.specs.Sources.{leader_of}
use Rattle.zr_gen.proofs.Lists.{pushed_view}
use Rattle.zr_gen.specs.Following.{leader_with_follower}
use Rattle.zr_gen.proofs.following.all_leaders.Goals as goal

pub loop-i-preserved : goal.loop-i-preserved
loop-i-preserved c =
    let d = c.args.drawn.now in
    pushed_view leader_of (leader_with_follower d.players d.draws.number) c.loop-i.list.items
    c.push.new.self.items c.in_ok-leader.leader c.loop-i.i c.loop-i.invariant
    c.in_ok-push.ensures.items c.in_ok-leader.ensures
