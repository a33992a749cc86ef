use Rattle.std.proofs.Common.{◌≡◌, ◌+◌, drop, map, take}
use Rattle.zr_game.specs.Players.{player_of}
use Rattle.zr_mix.specs.Steps.{var_total}
use Rattle.zr_costs.proofs.means.place.Given as goal

abbrev pub invariant-loop-player : goal.invariant-loop-player
invariant-loop-player l =
    l.before + var_total (map player_of (drop l.player-index (take l.k l.game.players.items)))
    ≡ var_total (map player_of (take l.k l.game.players.items))
