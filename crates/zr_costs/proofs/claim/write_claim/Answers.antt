use Rattle.std.proofs.Common.{arith}
use Rattle.zr_game.specs.Games.{game_of}
use Rattle.zr_game.proofs.Items.{at_number}
use Rattle.zr_costs.proofs.claim.write_claim.Goals as goal

pub value-requires : goal.value-requires
value-requires c =
    let who = at_number (game_of c.args.game.now) c.args.i c.requires.number in
    let a = c.own_means.ensures.len who.0 who.1 in
    let b = c.requires.slopes who.0 who.1 in
    omega (arith, a, b, c.slope.auto.out)

pub claim-requires : goal.claim-requires
claim-requires c =
    let who = at_number (game_of c.args.game.now) c.args.i c.requires.number in
    let a = c.requires.left who.0 who.1 in
    let b = c.requires.slopes who.0 who.1 in
    omega (arith, a, b, c.slope.auto.out)
