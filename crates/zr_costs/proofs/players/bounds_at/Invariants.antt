use Rattle.std.proofs.Common.{◌≤◌, length}
use Rattle.zr_game.specs.Games.{game_of}
use Rattle.zr_cert.specs.Certs.{mixtures_of, profile_with}
use Rattle.zr_costs.proofs.Working.{BoundsSoFar}
use Rattle.zr_costs.proofs.players.bounds_at.Given as goal

abbrev pub invariant-loop-i : goal.invariant-loop-i
invariant-loop-i l = record {
  so_far : BoundsSoFar (game_of l.game) (profile_with (mixtures_of l.profile)) l.i l.bounds.items
      l.fn.purse l.purse;
  within : l.i ≤ length (game_of l.game);
}
