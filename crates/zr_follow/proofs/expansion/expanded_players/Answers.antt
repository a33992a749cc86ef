use Rattle.zr_follow.proofs.LeaderForms.{few_vars, leader_form}
use Rattle.zr_follow.proofs.expansion.expanded_players.Goals as goal

pub expanded_player-requires-clause-form : goal.expanded_player-requires-clause-form
expanded_player-requires-clause-form c =
    leader_form c.args.leaders.now c.requires c.loop-leader.leader-index c.leader-item.result
    c.loop-leader-test.true c.leader-item.is

pub expanded_player-requires-clause-vars : goal.expanded_player-requires-clause-vars
expanded_player-requires-clause-vars c =
    few_vars c.args.leaders.now c.requires c.loop-leader.leader-index c.leader-item.result
    c.loop-leader-test.true c.leader-item.is
