use Rattle.std.proofs.Common.{◌≡◌, map, length, take}
use Rattle.std.specs.List.{All}
use Rattle.zr_game.specs.Players.{player_of}
use Rattle.zr_game.specs.Leaves.{leaf_of, slots}
use Rattle.zr_asked.specs.Branches.{present}
use Rattle.zr_asked.specs.Drawn.{places_from}
use Rattle.zr_branch.specs.Columns.{IsWeakRow, by_columns, part_of, row_bound}
use Rattle.zr_branch.proofs.row.rows_at.Given as goal

abbrev pub invariant-loop-slot : goal.invariant-loop-slot
invariant-loop-slot l = record {
  rows : map row_bound l.rows.items ≡ map (by_columns (map part_of l.parts))
      (present (take l.slot (slots (player_of l.player) (leaf_of l.leaf))));
  weak : All (IsWeakRow (length l.parts)) l.rows.items;
  places : l.places.items
      ≡ places_from 0 (take l.slot (slots (player_of l.player) (leaf_of l.leaf)));
}
