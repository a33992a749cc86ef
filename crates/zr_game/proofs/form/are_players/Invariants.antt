use Rattle.zr_game.specs.Players.{player_of, players_of}
use Rattle.zr_game.specs.Forms.{IsPlayerForm}
use Rattle.zr_game.proofs.Checks.{Checked}
use Rattle.zr_game.proofs.form.are_players.Given as goal

abbrev pub invariant-loop-i : goal.invariant-loop-i
invariant-loop-i l = Checked l.i (λ i player. IsPlayerForm (players_of l.players) i
    (player_of player)) l.players l.all
