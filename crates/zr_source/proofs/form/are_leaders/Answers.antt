use Rattle.std.proofs.Common.{arith}
use Rattle.zr_game.proofs.Checks.{all_checked, each_mapped, more_checked, none_checked}
use Rattle.zr_source.specs.SourceForms.{IsLeaderForm}
use Rattle.zr_source.specs.Sources.{leader_of}
use Rattle.zr_source.proofs.form.are_leaders.Goals as goal

pub loop-leader-init : goal.loop-leader-init
loop-leader-init c = none_checked (λ i leader. IsLeaderForm (leader_of leader)) c.args.leaders.now

pub loop-leader-preserved : goal.loop-leader-preserved
loop-leader-preserved c =
    more_checked (λ i leader. IsLeaderForm (leader_of leader)) c.args.leaders.now
    c.loop-leader.leader-index c.leader-item.result c.loop-leader-test.true c.leader-item.is
    c.loop-leader.all c.loop-leader.invariant c.is_leader-all.result c.is_leader-all.ensures

pub returns : goal.returns
returns c =
    each_mapped leader_of (λ i leader. IsLeaderForm leader) c.args.leaders.now c.loop-leader.all
    (all_checked (λ i leader. IsLeaderForm (leader_of leader)) c.args.leaders.now
    c.loop-leader.leader-index c.loop-leader.all (omega arith) (omega arith)
    c.loop-leader.invariant)
