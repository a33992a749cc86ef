use Rattle.std.proofs.Common.{rules, refl, IsTrue}
use Rattle.zr_refute.proofs.check.visit_player.Goals as goal

pub returns-then-not-is_open_player-clause-err : goal.returns-then-not-is_open_player-clause-err
returns-then-not-is_open_player-clause-err c = (
  λ h. let t = (rw c.made.ensures at c.is_open_player.ensures).1 h in
      let f = c.if-not-is_open_player.true in cc,
  refl,
)

pub returns-clause-ok : goal.returns-clause-ok
returns-clause-ok c =
    let yes : IsTrue c.is_open_player.result = search rules in
    (rw c.made.ensures at c.is_open_player.ensures).0 yes
