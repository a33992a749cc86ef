use Rattle.std.proofs.Common.{◌<◌, arith, length}
use Rattle.std.proofs.lemmas.List.{length-map}
use Rattle.zr_game.specs.Players.{player_of, var_of}
use Rattle.zr_system.proofs.GameReads.{forms_read}
use Rattle.zr_system.proofs.counts.var_count.Goals as goal

pub returns-clause-few : goal.returns-clause-few
returns-clause-few c =
    let player = c.index.result.now in
    let below : c.args.i < length c.args.game.now.players.items = omega
    (arith, c.requires, length-map c.args.game.now.players.items player_of) in
    let counts = (forms_read c.args.game.now c.args.i player below c.index.ensures).counts in
    omega (arith, counts.vars, length-map player.vars.items var_of, c.len.ensures, player.vars.ok.0)
