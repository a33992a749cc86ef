use Rattle.std.proofs.Common.{rules, IsTrue}
use Rattle.zr_game.specs.Games.{game_of}
use Rattle.zr_system.specs.Regions.{leaves_of}
use Rattle.zr_refute.specs.Refuting.{IsOpenLeaf}
use Rattle.zr_refute.specs.Walks.{path_of}
use Rattle.zr_refute.proofs.check.visit_leaf.Goals as goal
use Rattle.zr_refute.proofs.check.visit_leaf.Goals.{Else-not-is_open_leaf}

open_here : (c : Else-not-is_open_leaf) → IsOpenLeaf (game_of c.args.game.now)
    (leaves_of c.args.leaves.now) (path_of c.args.path.now) c.args.i c.args.k
open_here c =
    let yes : IsTrue c.is_open_leaf.result = search rules in
    (rw c.made.ensures at c.is_open_leaf.ensures).0 yes

pub returns-clause-entered : goal.returns-clause-entered
returns-clause-entered c =
    let o = open_here ((goal.at.returns-clause-entered c).Else-not-is_open_leaf) in
    c.enter.ensures (game_of c.args.game.now) (leaves_of c.args.leaves.now) c.requires.path o.0

pub returns-clause-size : goal.returns-clause-size
returns-clause-size c =
    let o = open_here ((goal.at.returns-clause-size c).Else-not-is_open_leaf) in
    (c.enter.ensures (game_of c.args.game.now) (leaves_of c.args.leaves.now) c.requires.path
    o.0).size
