use Rattle.std.proofs.Common.{arith}
use Rattle.std.proofs.lemmas.List.{length-map}
use Rattle.zr_game.specs.Players.{player_of, var_of}
use Rattle.zr_asked.specs.Paths.{branch}
use Rattle.zr_box_search.proofs.Ends.{refuted_leaf, zero_stop}
use Rattle.zr_box_search.proofs.empty.asked_refutation.Goals as goal

pub ask-requires-clause-aim : goal.ask-requires-clause-aim
ask-requires-clause-aim c =
    let n = length-map c.args.player.now.vars.items var_of in
    let z = c.in-Ok.ensures.aim (player_of c.args.player.now)
    (omega (arith, n, c.len.ensures, c.args.player.now.vars.ok.0)) in
    rw c.deref.ensures.value z.0

pub returns-in-Err-clause-cause : goal.returns-in-Err-clause-cause
returns-in-Err-clause-cause c =
    let n = length-map c.args.player.now.vars.items var_of in
    let z = c.in-Ok.ensures.aim (player_of c.args.player.now)
    (omega (arith, n, c.len.ensures, c.args.player.now.vars.ok.0)) in
    zero_stop c.args.i (player_of c.args.player.now) c.args.path.now c.in-Ok.aim.items c.in-Err.stop
    z (rw c.deref.ensures.value at c.in-Err.ensures.cause)

pub returns-in-Ok-Empty-clause-found : goal.returns-in-Ok-Empty-clause-found
returns-in-Ok-Empty-clause-found c =
    let player = player_of c.args.player.now in
    let n = length-map c.args.player.now.vars.items var_of in
    let z = c.in-Ok.ensures.aim player
    (omega (arith, n, c.len.ensures, c.args.player.now.vars.ok.0)) in
    refuted_leaf c.args.i player c.requires.player (branch player c.args.path.now)
    c.in-Ok.aim.items c.in-Ok-Empty.mult.items z
    (rw (c.in-Ok-Empty.field-0-is, c.deref.ensures.value) at c.in-Ok-Empty.ensures.reply)
