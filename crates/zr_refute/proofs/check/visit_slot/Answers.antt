use Rattle.std.proofs.Common.{rules, refl, IsTrue}
use Rattle.zr_game.specs.Games.{game_of}
use Rattle.zr_system.specs.Regions.{leaves_of}
use Rattle.zr_refute.specs.Refuting.{IsOpenSlot}
use Rattle.zr_refute.specs.Walks.{path_of}
use Rattle.zr_refute.proofs.check.visit_slot.Goals as goal
use Rattle.zr_refute.proofs.check.visit_slot.Goals.{Else-not-is_open_slot}

open_here : (c : Else-not-is_open_slot) → IsOpenSlot (game_of c.args.game.now)
    (leaves_of c.args.leaves.now) (path_of c.args.path.now) c.args.i c.args.k c.args.s
open_here c =
    let yes : IsTrue c.is_open_slot.result = search rules in
    (rw c.made.ensures at c.is_open_slot.ensures).0 yes

pub returns-then-not-is_open_slot-clause-err : goal.returns-then-not-is_open_slot-clause-err
returns-then-not-is_open_slot-clause-err c = (
  λ h. let t = (rw c.made.ensures at c.is_open_slot.ensures).1 h in
      let f = c.if-not-is_open_slot.true in cc,
  refl,
)

pub returns-clause-ok : goal.returns-clause-ok
returns-clause-ok c = open_here ((goal.at.returns-clause-ok c).Else-not-is_open_slot)

pub returns-clause-entered : goal.returns-clause-entered
returns-clause-entered c =
    let o = open_here ((goal.at.returns-clause-entered c).Else-not-is_open_slot) in
    c.enter.ensures (game_of c.args.game.now) (leaves_of c.args.leaves.now) c.requires.path o.0

pub returns-clause-size : goal.returns-clause-size
returns-clause-size c =
    let o = open_here ((goal.at.returns-clause-size c).Else-not-is_open_slot) in
    (c.enter.ensures (game_of c.args.game.now) (leaves_of c.args.leaves.now) c.requires.path
    o.0).size
