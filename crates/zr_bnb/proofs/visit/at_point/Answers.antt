use Rattle.zr_game.specs.Players.{player_of}
use Rattle.zr_game.specs.Leaves.{leaf_of}
use Rattle.zr_bnb.proofs.Visiting.{closed_by}
use Rattle.zr_bnb.proofs.visit.at_point.Goals as goal

pub returns-in-Feasible-clause-fate : goal.returns-in-Feasible-clause-fate
returns-in-Feasible-clause-fate c aim best scale mult b no_higher more near =
    let player = player_of c.args.player.now in
    record {
      feasible = c.tested.ensures.yes player c.requires.player b.meets.len c.in-Feasible.is;
      lowest = b.lowest;
      value_is = b.value_is;
      no_higher = no_higher;
      closed = closed_by player aim (leaf_of c.args.leaf.now) c.args.point c.args.value scale mult b;
      solution = b.solution;
    }

pub at_other-requires-clause-infeasible : goal.at_other-requires-clause-infeasible
at_other-requires-clause-infeasible c e =
    c.tested.ensures.no (player_of c.args.player.now) c.requires.player c.requires.meets.len
    c.in-Infeasible.is
