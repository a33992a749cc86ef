use Rattle.std.proofs.Common.{arith}
use Rattle.zr_game.specs.Players.{player_of}
use Rattle.zr_game.proofs.Items.{found}
use Rattle.zr_box_search.proofs.split.if_splits.Goals as goal

pub is_between-requires : goal.is_between-requires
is_between-requires c v h =
    let is = found player_of c.args.game.now.players.items c.in-Some.split.player
    c.index.result.now (omega (arith, c.if-i-len.true, c.len.ensures, c.args.game.now.players.ok.0))
    c.index.ensures in
    c.requires c.in-Some.split.player (player_of c.index.result.now) is v h

pub returns-then-is_between : goal.returns-then-is_between
returns-then-is_between c =
    let is = found player_of c.args.game.now.players.items c.in-Some.split.player
    c.index.result.now (omega (arith, c.if-i-len.true, c.len.ensures, c.args.game.now.players.ok.0))
    c.index.ensures in
    (player_of c.index.result.now, is, c.is_between.ensures c.if-is_between.true)
