use Rattle.std.proofs.Common.{◌≡◌, ◌+◌, ◌*◌, ◌^◌, ◌≤◌, length}
use Rattle.zr_game.specs.Games.{game_of}
use Rattle.zr_system.specs.Lines.{leaf_lines}
use Rattle.zr_system.specs.Regions.{leaves_of, named_at}
use Rattle.zr_system.specs.Unknowns.{list_to}
use Rattle.zr_system.proofs.size.player_row_count.Given as goal

abbrev pub invariant-loop-k : goal.invariant-loop-k
invariant-loop-k l = record {
  count : l.count ≡ 2 + length (named_at (leaves_of l.leaves) l.i) + length
      (list_to l.k (λ k. leaf_lines (game_of l.game) (leaves_of l.leaves) l.i k));
  few : l.count ≤ 2 + 2 ^ 64 + l.k * 2 ^ 66;
}
