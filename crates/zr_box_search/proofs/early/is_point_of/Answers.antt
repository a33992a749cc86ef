use Rattle.std.proofs.Common.{arith}
use Rattle.std.proofs.lemmas.List.{length-map}
use Rattle.zr_game.specs.Players.{player_of, var_of}
use Rattle.zr_box_search.proofs.early.is_point_of.Goals as goal

pub returns : goal.returns
returns c e =
    let n = length-map c.args.player.now.vars.items var_of in
    c.is_feasible.ensures (player_of c.args.player.now) c.requires.player
    (omega (arith, n, c.if-len.false, c.len.ensures, c.len-2.ensures, c.args.player.now.vars.ok.0))
    e
