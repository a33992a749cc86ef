use Rattle.std.proofs.Common.{◌+◌, ◌≤◌}
use Rattle.zr_cases.specs.Cases.{bnode_of}
use Rattle.zr_cases.specs.Forms.{box_count}
use Rattle.zr_cases.proofs.Whole.{IsDue}
use Rattle.zr_cases.proofs.form.is_one_box_tree.Given as goal

abbrev pub invariant-loop-node : goal.invariant-loop-node
invariant-loop-node l = record { few : l.due ≤ l.node-index + 1; left : IsDue bnode_of box_count l.nodes l.node-index l.due }
