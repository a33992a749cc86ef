use Rattle.std.proofs.Common.{arith, sym}
use Rattle.zr_game.specs.Players.{player_of, players_of}
use Rattle.zr_game.specs.Forms.{IsPlayerForm}
use Rattle.zr_game.proofs.Checks.{all_checked, each_mapped, more_checked, none_checked}
use Rattle.zr_game.proofs.form.are_players.Goals as goal

pub loop-i-init : goal.loop-i-init
loop-i-init c = none_checked (λ i player. IsPlayerForm (players_of c.args.players.now) i
    (player_of player)) c.args.players.now

pub loop-i-preserved : goal.loop-i-preserved
loop-i-preserved c =
    more_checked (λ i player. IsPlayerForm (players_of c.args.players.now) i (player_of player))
    c.args.players.now c.loop-i.i c.index-players-i.result c.loop-i-test.true
    c.index-players-i.is c.loop-i.all c.loop-i.invariant c.is_player-all.result
    (c.is_player-all.ensures (players_of c.args.players.now) (sym c.requires))

pub returns : goal.returns
returns c =
    each_mapped player_of (IsPlayerForm (players_of c.args.players.now)) c.args.players.now
    c.loop-i.all
    (all_checked (λ i player. IsPlayerForm (players_of c.args.players.now) i (player_of player))
    c.args.players.now c.loop-i.i c.loop-i.all (omega arith) (omega arith) c.loop-i.invariant)
