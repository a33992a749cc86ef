use Rattle.std.proofs.Common.{◌≡◌, drop, max}
use Rattle.zr_game.specs.Players.{players_of}
use Rattle.zr_tree.specs.Scratches.{most_vars}
use Rattle.zr_check.proofs.room.greatest_vars.Given as goal

abbrev pub invariant-loop-player : goal.invariant-loop-player
invariant-loop-player l = most_vars (players_of l.players) ≡ max l.most (most_vars (players_of (drop l.player-index l.players)))
