use Rattle.std.proofs.Common.{◌<◌, ℕ, length, sym, subst}
use Rattle.zr_game.specs.Games.{game_of}
use Rattle.zr_game.specs.Players.{player_of}
use Rattle.zr_game.specs.Forms.{IsPlayer}
use Rattle.zr_game.proofs.Items.{found}
use Rattle.zr_bnb.proofs.Firsts.{all_found, more_found}
use Rattle.zr_boxes.specs.Paths.{box_of}
use Rattle.zr_box_search.specs.Fates.{SplitsRange}
use Rattle.zr_box_search.specs.OpenBoxes.{HasOneValue}
use Rattle.zr_box_search.proofs.split.first_split.Goals as goal

pub own_split-requires-clause-few : goal.own_split-requires-clause-few
own_split-requires-clause-few c =
    let is = rw c.deref-player-items.ensures.value at c.player-item.is in
    let below = rw c.deref-player-items.ensures.value at c.loop-i-test.true in
    (c.args.game.now.sound.players c.loop-i.i (player_of c.player-item.result)
    (found player_of c.args.game.now.players.items c.loop-i.i c.player-item.result below is)).var_count

pub own_split-requires-clause-ranged : goal.own_split-requires-clause-ranged
own_split-requires-clause-ranged c v h =
    let is = rw c.deref-player-items.ensures.value at c.player-item.is in
    let below = rw c.deref-player-items.ensures.value at c.loop-i-test.true in
    c.requires c.loop-i.i (player_of c.player-item.result)
    (found player_of c.args.game.now.players.items c.loop-i.i c.player-item.result below is) v h

pub returns-in-Some-clause-some : goal.returns-in-Some-clause-some
returns-in-Some-clause-some c =
    let is = rw c.deref-player-items.ensures.value at c.player-item.is in
    let below = rw c.deref-player-items.ensures.value at c.loop-i-test.true in
    let player = player_of c.player-item.result in
    let at = found player_of c.args.game.now.players.items c.loop-i.i c.player-item.result below is
    in
    let e = sym c.in-Some.ensures.player in (
      player,
      subst (λ (k : ℕ). IsPlayer (game_of c.args.game.now) k player) e at,
      subst (λ (k : ℕ). SplitsRange player (box_of c.args.leaves.now k) c.in-Some.split) e
          c.in-Some.ensures.some,
    )

pub loop-i-preserved : goal.loop-i-preserved
loop-i-preserved c k player h e =
    let is = rw c.deref-player-items.ensures.value at c.player-item.is in
    let below = rw c.deref-player-items.ensures.value at c.loop-i-test.true in
    more_found player_of (λ j p. (v : ℕ) → v < length p.vars → HasOneValue (box_of c.args.leaves.now j) v)
    c.args.game.now.players.items c.loop-i.i c.player-item.result below is
    (λ j p l f. c.loop-i.invariant j p l f) c.in_default.ensures.none k player h e

pub returns-clause-none : goal.returns-clause-none
returns-clause-none c k player is =
    let end = rw c.deref-player-items.ensures.value at c.loop-i-test.false in
    all_found player_of (λ j p. (v : ℕ) → v < length p.vars → HasOneValue (box_of c.args.leaves.now j) v)
    c.args.game.now.players.items c.loop-i.i end (λ j p l f. c.loop-i.invariant j p l f) k player is
