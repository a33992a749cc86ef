use Rattle.std.proofs.Common.{arith, ◌∙◌, sym, length}
use Rattle.std.proofs.lemmas.List.{length-map}
use Rattle.zr_game.specs.Players.{var_of, players_of}
use Rattle.zr_tree.specs.Scratches.{most_vars}
use Rattle.zr_tree.proofs.Greatest.{greatest_all, greatest_more}
use Rattle.zr_check.proofs.room.greatest_vars.Goals as goal

pub loop-player-init : goal.loop-player-init
loop-player-init c = omega arith

pub loop-player-preserved : goal.loop-player-preserved
loop-player-preserved c =
    let count = c.len.ensures ∙ c.player-item.result.vars.ok.0 ∙ sym (length-map c.player-item.result.vars.items var_of) in
    rw c.max-most.ensures (greatest_more (λ player. length player.vars) c.args.players.now (most_vars (players_of c.args.players.now)) c.loop-player.player-index c.loop-player.most c.len.result c.player-item.result c.loop-player-test.true c.player-item.is count c.loop-player.invariant)

pub returns : goal.returns
returns c =
    greatest_all (λ player. length player.vars) c.args.players.now (most_vars (players_of c.args.players.now)) c.loop-player.player-index c.loop-player.most c.loop-player-test.false c.loop-player.invariant
