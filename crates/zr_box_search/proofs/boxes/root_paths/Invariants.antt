use Rattle.std.proofs.Common.{◌≡◌, ◌≤◌, ◌-◌, ℕ, [], length}
use Rattle.zr_box_search.specs.Dues.{moves_of, path_at}
use Rattle.zr_box_search.proofs.boxes.root_paths.Given as goal

abbrev pub invariant-players : goal.invariant-players
invariant-players l = record {
  len : length l.paths.items ≤ l.count;
  each : (k : ℕ) → path_at (moves_of l.paths.items) k ≡ [];
}

abbrev pub decreases-players : goal.decreases-players
decreases-players l = l.count - length l.paths.items
