use Rattle.std.proofs.Common.{inl, subst}
use Rattle.zr_game.specs.Players.{player_of}
use Rattle.zr_game.specs.Leaves.{LeafOf, leaf_of}
use Rattle.zr_branch.specs.Replies.{IsUnboundedAt}
use Rattle.zr_bnb.proofs.Directions.{is_ray}
use Rattle.zr_bnb.proofs.Visiting.{no_least}
use Rattle.zr_bnb.proofs.visit.along.Goals as goal

pub returns-in-None-clause-fate : goal.returns-in-None-clause-fate
returns-in-None-clause-fate c aim best un more near =
    let player = player_of c.args.player.now in
    let leaf = leaf_of c.args.leaf.now in
    let none = rw c.deref.ensures.value at c.in-None.ensures.none in
    record {
      ray = is_ray player c.requires.some leaf c.requires.keeps c.args.point un.meets none.0
          c.args.ray.items none.1 un.len un.keeps;
      falls = un.falls;
      solution = un.solution;
      direction = un.direction;
    }

pub returns-in-Some-clause-opens : goal.returns-in-Some-clause-opens
returns-in-Some-clause-opens c aim un e root =
    let player = player_of c.args.player.now in
    inl (no_least player aim c.args.point c.args.ray.items
    (subst (λ (l : LeafOf). IsUnboundedAt player l aim c.args.point c.args.ray.items) root un))
