use Rattle.std.proofs.Common.{inr, subst, []}
use Rattle.zr_game.specs.Players.{player_of}
use Rattle.zr_game.specs.Leaves.{LeafOf, leaf_of}
use Rattle.zr_branch.specs.Replies.{IsBestAt}
use Rattle.zr_bnb.proofs.Directions.{is_feasible}
use Rattle.zr_bnb.proofs.Visiting.{closed_by, infeasible_least}
use Rattle.zr_bnb.proofs.visit.at_other.Goals as goal

pub returns-in-None-clause-fate : goal.returns-in-None-clause-fate
returns-in-None-clause-fate c aim best scale mult b no_higher more near =
    let player = player_of c.args.player.now in
    let leaf = leaf_of c.args.leaf.now in
    let none = c.in-None.ensures.none in
    record {
      feasible = is_feasible player c.requires.some leaf c.requires.keeps c.args.point b.meets none.0
          [] none.1;
      lowest = b.lowest;
      value_is = b.value_is;
      no_higher = no_higher;
      closed = closed_by player aim leaf c.args.point c.args.value scale mult b;
      solution = b.solution;
    }

pub returns-in-Some-clause-fate : goal.returns-in-Some-clause-fate
returns-in-Some-clause-fate c aim best scale mult b no_higher more near =
    ((c.args.point, b.meets), c.in-Some.ensures.split more near)

pub returns-in-Some-clause-opens : goal.returns-in-Some-clause-opens
returns-in-Some-clause-opens c aim scale mult b e root =
    let player = player_of c.args.player.now in
    inr (
      c.args.point,
      infeasible_least player aim c.args.point c.args.value scale mult
          (subst (λ (l : LeafOf). IsBestAt player l aim c.args.point c.args.value scale mult) root b)
          (c.requires.infeasible e),
    )
