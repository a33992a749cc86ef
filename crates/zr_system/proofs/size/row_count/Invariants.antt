use Rattle.std.proofs.Common.{◌≡◌, ◌*◌, ◌^◌, ◌≤◌, length}
use Rattle.zr_game.specs.Games.{game_of}
use Rattle.zr_system.specs.Lines.{player_lines}
use Rattle.zr_system.specs.Regions.{leaves_of}
use Rattle.zr_system.specs.Unknowns.{list_to}
use Rattle.zr_system.proofs.size.row_count.Given as goal

abbrev pub invariant-loop-i : goal.invariant-loop-i
invariant-loop-i l = record {
  count : l.count ≡ length
      (list_to l.i (λ i. player_lines (game_of l.game) (leaves_of l.leaves) i));
  few : l.count ≤ l.i * 2 ^ 99;
}
