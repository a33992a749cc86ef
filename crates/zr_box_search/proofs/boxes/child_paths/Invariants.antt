use Rattle.std.proofs.Common.{◌≡◌, ◌≢◌, ℕ, ◌<◌, ◌∷◌, [], ◌++◌, length}
use Rattle.zr_box_search.specs.Dues.{moves_of, path_at}
use Rattle.zr_box_search.proofs.boxes.child_paths.Given as goal

abbrev pub invariant-loop-k : goal.invariant-loop-k
invariant-loop-k l = record {
  len : length l.child.items ≡ l.k;
  others : (j : ℕ) → j < l.k → j ≢ l.i
      → path_at (moves_of l.child.items) j ≡ path_at (moves_of l.paths) j;
  own : l.i < l.k → path_at (moves_of l.child.items) l.i
      ≡ path_at (moves_of l.paths) l.i ++ l.step ∷ [];
}
