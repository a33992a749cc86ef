use Rattle.std.proofs.Common.{arith}
use Rattle.std.proofs.lemmas.Option.{slice_get_within}
use Rattle.zr_game.specs.Games.{game_of}
use Rattle.zr_game.specs.Players.{player_of}
use Rattle.zr_game.proofs.Items.{found}
use Rattle.zr_box_search.proofs.early.early_deviation.Goals as goal

pub early_point-requires-clause-player : goal.early_point-requires-clause-player
early_point-requires-clause-player c =
    found player_of c.args.game.now.players.items c.loop-i.i c.player-item.result
    (rw c.deref-player-items.ensures.value at c.loop-i-test.true)
    (rw c.deref-player-items.ensures.value at c.player-item.is)

pub returns-in-Ok-Some-clause-node : goal.returns-in-Ok-Some-clause-node
returns-in-Ok-Some-clause-node c =
    let is = found player_of c.args.game.now.players.items c.loop-i.i c.player-item.result
    (rw c.deref-player-items.ensures.value at c.loop-i-test.true)
    (rw c.deref-player-items.ensures.value at c.player-item.is) in
    let better = rw c.in-Ok-Some.field-0-is at c.in-Ok-Some.ensures.better in
    let den = rw c.in-Ok-Some.field-0-is at c.in-Ok-Some.ensures.den in
    ((player_of c.player-item.result, is, better), den)

pub returns-in-Ok-Some-clause-form : goal.returns-in-Ok-Some-clause-form
returns-in-Ok-Some-clause-form c =
    let is = found player_of c.args.game.now.players.items c.loop-i.i c.player-item.result
    (rw c.deref-player-items.ensures.value at c.loop-i-test.true)
    (rw c.deref-player-items.ensures.value at c.player-item.is) in
    let better = rw c.in-Ok-Some.field-0-is at c.in-Ok-Some.ensures.better in
    let kept = rw c.in-Ok-Some.field-0-is at c.in-Ok-Some.ensures.kept in
    let len = better.feasible.len in
    let form = c.args.game.now.sound.players c.loop-i.i (player_of c.player-item.result) is in
    let some = form.some_var in
    let few = c.args.game.now.sound.player_count in
    let w = slice_get_within (game_of c.args.game.now) c.loop-i.i (player_of c.player-item.result) is in
    (omega (arith, w, few), (omega (arith, len, some), kept))
