use Rattle.std.proofs.Common.{◌≡◌, ◌++◌, ◌-◌, ◌≤◌}
use Rattle.zr_refute.specs.Walks.{whiches}
use Rattle.zr_comp.specs.Cases.{due_paths}
use Rattle.zr_comp.proofs.path.put_leaves.Given as goal

abbrev pub invariant-leaves : goal.invariant-leaves
invariant-leaves l = record {
  left : l.k ≤ l.leaves;
  due : due_paths l.due.items ≡ whiches l.path l.i l.k (l.leaves - l.k)
      ++ due_paths l.initial.due.items;
}

abbrev pub decreases-leaves : goal.decreases-leaves
decreases-leaves l = l.k
