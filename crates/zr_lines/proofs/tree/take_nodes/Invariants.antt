use Rattle.std.proofs.Common.{◌≤◌, ◌+◌, map, true, false, length}
use Rattle.zr_tree.specs.Form.{child_count}
use Rattle.zr_tree.specs.Nodes.{node_of}
use Rattle.zr_form.specs.Lines.{by_fields, lines_of}
use Rattle.zr_form.specs.Reading.{items_read}
use Rattle.zr_form.proofs.Composing.{BothSoFar}
use Rattle.zr_lines.specs.Reader.{node_at, tree_read}
use Rattle.zr_lines.proofs.tree.take_nodes.Given as goal

-- Each line closes one place and opens at most two, so no more are due than bytes were read.
abbrev pub invariant-loop-due : goal.invariant-loop-due
invariant-loop-due l = record {
  room : l.due + length l.rest ≤ length l.bytes + 1;
  so_far : BothSoFar (map node_of l.nodes.items) (items_read (by_fields (node_at true l.ends)) child_count (lines_of l.rest) l.due) (items_read (by_fields (node_at false l.ends)) child_count (lines_of l.rest) l.due)
      (tree_read true l.ends (lines_of l.bytes)) (tree_read false l.ends (lines_of l.bytes));
}

abbrev pub decreases-loop-due : goal.decreases-loop-due
decreases-loop-due l = length l.rest
