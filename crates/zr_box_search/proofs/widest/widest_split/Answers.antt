use Rattle.zr_game.specs.Games.{game_of}
use Rattle.zr_game.specs.Players.{player_of}
use Rattle.zr_game.proofs.Items.{found}
use Rattle.zr_boxes.specs.Paths.{box_of}
use Rattle.zr_box_search.proofs.Bounding.{near_player}
use Rattle.zr_box_search.proofs.widest.widest_split.Goals as goal

pub widest_of-requires-clause-few : goal.widest_of-requires-clause-few
widest_of-requires-clause-few c =
    let is = rw c.deref-player-items.ensures.value at c.player-item.is in
    let below = rw c.deref-player-items.ensures.value at c.loop-i-test.true in
    (c.args.game.now.sound.players c.loop-i.i (player_of c.player-item.result)
    (found player_of c.args.game.now.players.items c.loop-i.i c.player-item.result below is)).var_count

pub widest_of-requires-clause-near : goal.widest_of-requires-clause-near
widest_of-requires-clause-near c =
    let is = rw c.deref-player-items.ensures.value at c.player-item.is in
    let below = rw c.deref-player-items.ensures.value at c.loop-i-test.true in (
      c.loop-i.i,
      near_player (game_of c.args.game.now) c.args.game.now.sound (box_of c.args.leaves.now)
          c.requires c.loop-i.i (player_of c.player-item.result)
          (found player_of c.args.game.now.players.items c.loop-i.i c.player-item.result below is),
    )
