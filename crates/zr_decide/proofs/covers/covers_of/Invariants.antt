use Rattle.std.proofs.Common.{◌≤◌, length}
use Rattle.zr_game.specs.Games.{game_of}
use Rattle.zr_decide.proofs.Covering.{CoversSoFar}
use Rattle.zr_decide.proofs.covers.covers_of.Given as goal

abbrev pub invariant-loop-i : goal.invariant-loop-i
invariant-loop-i l = record {
  so_far : CoversSoFar (game_of l.game) l.i l.trees.items l.ray l.fn.purse l.purse;
  within : l.i ≤ length (game_of l.game);
}
