use Rattle.std.proofs.Common.{◌+◌, ◌*◌, ◌^◌, ◌≤◌}
use Rattle.zr_cases.specs.Cases.{rnode_of}
use Rattle.zr_cases.specs.Forms.{case_count}
use Rattle.zr_cases.proofs.Whole.{IsDue}
use Rattle.zr_cases.proofs.form.is_one_tree.Given as goal

abbrev pub invariant-loop-node : goal.invariant-loop-node
invariant-loop-node l = record { few : l.due ≤ l.node-index * (2 ^ 32) + 1; left : IsDue rnode_of (case_count l.leaves) l.nodes l.node-index l.due }
