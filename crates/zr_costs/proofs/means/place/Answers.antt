use Rattle.std.proofs.Common.{arith, ap, take}
use Rattle.std.proofs.lemmas.List.{take-map}
use Rattle.zr_game.specs.Games.{game_of}
use Rattle.zr_game.specs.Players.{player_of}
use Rattle.zr_mix.specs.Steps.{var_total}
use Rattle.zr_mix.proofs.Places.{no_player, one_player}
use Rattle.zr_check.proofs.VarPlaces.{place_within, var_total_few}
use Rattle.zr_costs.proofs.means.place.Goals as goal

pub overflow_add-before : goal.overflow_add-before
overflow_add-before c =
    let ts = take c.args.k c.args.game.now.players.items in
    let here = rw c.deref.ensures.value at c.loop-player-test.true in
    let is = rw c.deref.ensures.value at c.player-item.is in
    let o = one_player ts c.loop-player.player-index c.player-item.result here is in
    let e = ap var_total (take-map player_of c.args.k c.args.game.now.players.items) in
    let w = place_within (game_of c.args.game.now) c.args.k in
    let few = var_total_few (game_of c.args.game.now) c.args.game.now.sound in
    omega (arith, o, e, w, few, c.loop-player.invariant, c.len-before.ensures)

pub loop-player-preserved : goal.loop-player-preserved
loop-player-preserved c =
    let ts = take c.args.k c.args.game.now.players.items in
    let here = rw c.deref.ensures.value at c.loop-player-test.true in
    let is = rw c.deref.ensures.value at c.player-item.is in
    let o = one_player ts c.loop-player.player-index c.player-item.result here is in
    omega (arith, o, c.loop-player.invariant, c.len-before.ensures)

pub returns : goal.returns
returns c =
    let ts = take c.args.k c.args.game.now.players.items in
    let done = rw c.deref.ensures.value at c.loop-player-test.false in
    let n = no_player ts c.loop-player.player-index done in
    let e = ap var_total (take-map player_of c.args.k c.args.game.now.players.items) in
    omega (arith, n, e, c.loop-player.invariant)
