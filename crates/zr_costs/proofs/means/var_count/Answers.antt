use Rattle.std.proofs.Common.{arith, ap, length}
use Rattle.std.proofs.lemmas.List.{length-map}
use Rattle.zr_game.specs.Games.{game_of}
use Rattle.zr_game.specs.Players.{PlayerOf, player_of, var_of}
use Rattle.zr_game.proofs.Items.{found, one, read_below}
use Rattle.zr_costs.proofs.means.var_count.Goals as goal

pub returns : goal.returns
returns c player is =
    let players = c.args.game.now.players.items in
    let this = found player_of players c.args.i c.index.result.now
    (read_below player_of players c.args.i c.requires) c.index.ensures in
    let l = length-map c.index.result.now.vars.items var_of in
    let e = ap (λ (p : PlayerOf). length p.vars)
    (one (game_of c.args.game.now) c.args.i (player_of c.index.result.now) player this is) in
    omega (arith, l, e, c.len.ensures, c.index.result.now.vars.ok.0)
