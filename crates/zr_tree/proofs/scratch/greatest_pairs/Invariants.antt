use Rattle.std.proofs.Common.{◌≡◌, drop, max}
use Rattle.zr_game.specs.Players.{players_of}
use Rattle.zr_tree.specs.Scratches.{most_pairs}
use Rattle.zr_tree.proofs.scratch.greatest_pairs.Given as goal

abbrev pub invariant-loop-player : goal.invariant-loop-player
invariant-loop-player l = most_pairs (players_of l.players) ≡ max l.most (most_pairs (players_of (drop l.player-index l.players)))
