use Rattle.std.proofs.Common.{◌≡◌, ◌+◌, ◌-◌, ◌≤◌, vec_len, vec_capacity}
use Rattle.zr_nodes.proofs.Families.{Bearing}
use Rattle.zr_nodes.proofs.branches.push_brood.Given as goal

abbrev pub invariant-loop-i : goal.invariant-loop-i
invariant-loop-i l = record {
  bearing : Bearing l.fn.nodes.items l.nodes.items l.parent (vec_len l.fn.nodes) (vec_len l.nodes)
      l.count (l.count - l.i);
  len : vec_len l.nodes ≡ vec_len l.fn.nodes + l.i;
  capacity : vec_capacity l.fn.nodes ≤ vec_capacity l.nodes;
}
