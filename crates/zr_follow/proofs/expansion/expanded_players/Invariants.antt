use Rattle.std.proofs.Common.{◌≡◌, ◌++◌, drop}
use Rattle.zr_game.specs.Players.{players_of}
use Rattle.zr_follow.specs.Expansion.{expansion}
use Rattle.zr_source.specs.Sources.{leaders_of}
use Rattle.zr_follow.proofs.expansion.expanded_players.Given as goal

abbrev pub invariant-loop-leader : goal.invariant-loop-leader
invariant-loop-leader l =
    players_of l.players.items ++ expansion (leaders_of (drop l.leader-index l.leaders))
    ≡ expansion (leaders_of l.leaders)
