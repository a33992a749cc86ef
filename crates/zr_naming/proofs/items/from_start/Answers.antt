use Rattle.std.proofs.Common.{◌≡◌, ◌≤◌, arith, length, map}
use Rattle.std.proofs.lemmas.List.{length-map}
use Rattle.zr_game.specs.Games.{game_of}
use Rattle.zr_game.specs.Named.{named_of}
use Rattle.zr_game.specs.Players.{player_of, var_of}
use Rattle.zr_naming.proofs.Naming.{all_named}
use Rattle.zr_naming.proofs.items.from_start.Goals as goal

pub put_ray-requires-clause-lengths : goal.put_ray-requires-clause-lengths
put_ray-requires-clause-lengths c =
    c.in-Ok.ensures.lengths (player_of c.args.player.now) c.requires.player

pub returns-clause-items : goal.returns-clause-items
returns-clause-items c =
    let player = player_of c.args.player.now in
    let l = length-map c.args.player.now.vars.items var_of in
    let k = c.args.player.now.vars.ok.0 in
    let n = c.len-v-end.ensures in
    let t = c.loop-v-test.false in
    let e = c.loop-v.auto.v-end in
    let m = c.requires.some.1.var_count in
    all_named (game_of c.args.game.now) c.args.i player (map named_of c.loop-v.items.items)
    c.loop-v.v (omega (arith, l, k, n, t, e)) (omega (arith, l, k, n, t, e, m))
    c.loop-v.invariant.items
