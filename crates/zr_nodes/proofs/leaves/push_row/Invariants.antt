use Rattle.std.proofs.Common.{◌≡◌, ◌+◌, ◌-◌, ◌≤◌, vec_len, vec_capacity}
use Rattle.zr_nodes.proofs.Rows.{Growing}
use Rattle.zr_nodes.proofs.leaves.push_row.Given as goal

abbrev pub invariant-loop-i : goal.invariant-loop-i
invariant-loop-i l = record {
  growing : Growing l.fn.places.items l.places.items (vec_len l.fn.places) (vec_len l.places)
      l.fn.previous l.last l.next l.count (l.count - l.i);
  len : vec_len l.places ≡ vec_len l.fn.places + l.i;
  capacity : vec_capacity l.fn.places ≤ vec_capacity l.places;
}
