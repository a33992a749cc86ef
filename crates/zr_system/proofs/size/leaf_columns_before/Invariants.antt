use Rattle.std.proofs.Common.{◌≡◌, ◌*◌, ◌^◌, ◌≤◌, length}
use Rattle.zr_game.specs.Games.{game_of}
use Rattle.zr_system.specs.Regions.{leaves_of}
use Rattle.zr_system.specs.Unknowns.{leaf_unknowns, list_to}
use Rattle.zr_system.proofs.size.leaf_columns_before.Given as goal

abbrev pub invariant-loop-k : goal.invariant-loop-k
invariant-loop-k l = record {
  count : l.count ≡ length
      (list_to l.k (λ k. leaf_unknowns (game_of l.game) (leaves_of l.leaves) l.i k));
  few : l.count ≤ l.k * 2 ^ 66;
}
