use Rattle.zr_game.specs.Players.{player_of}
use Rattle.zr_game.proofs.Items.{found}
use Rattle.zr_bnb.proofs.Firsts.{all_found, more_found}
use Rattle.zr_box_search.specs.Whole.{IsBoxPlayer}
use Rattle.zr_box_search.proofs.whole.is_box_game.Goals as goal

pub returns-then-not-is_box_player-clause-no : goal.returns-then-not-is_box_player-clause-no
returns-then-not-is_box_player-clause-no c e =
    let is = rw c.deref-player-items.ensures.value at c.player-item.is in
    let below = rw c.deref-player-items.ensures.value at c.loop-player-test.true in (
      c.loop-player.player-index,
      player_of c.player-item.result,
      found player_of c.args.game.now.players.items c.loop-player.player-index c.player-item.result
          below is,
      c.is_box_player.ensures.no c.if-not-is_box_player.true,
    )

pub loop-player-preserved : goal.loop-player-preserved
loop-player-preserved c k player h e =
    let is = rw c.deref-player-items.ensures.value at c.player-item.is in
    let below = rw c.deref-player-items.ensures.value at c.loop-player-test.true in
    more_found player_of (λ w x. IsBoxPlayer x) c.args.game.now.players.items
    c.loop-player.player-index c.player-item.result below is
    (λ w x k f. c.loop-player.invariant w x k f)
    (c.is_box_player.ensures.yes c.if-not-is_box_player.false) k player h e

pub returns-clause-yes : goal.returns-clause-yes
returns-clause-yes c e k player is =
    let end = rw c.deref-player-items.ensures.value at c.loop-player-test.false in
    all_found player_of (λ w x. IsBoxPlayer x) c.args.game.now.players.items
    c.loop-player.player-index end (λ w x k f. c.loop-player.invariant w x k f) k player is
