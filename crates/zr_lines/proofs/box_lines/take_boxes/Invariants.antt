use Rattle.std.proofs.Common.{◌≤◌, ◌+◌, map, true, false, length}
use Rattle.zr_cases.specs.Forms.{box_count}
use Rattle.zr_cases.specs.Cases.{bnode_of}
use Rattle.zr_form.specs.Lines.{by_fields, lines_of}
use Rattle.zr_form.specs.Reading.{items_read}
use Rattle.zr_form.proofs.Composing.{BothSoFar}
use Rattle.zr_lines.specs.Reader.{box_at, boxes_read}
use Rattle.zr_lines.proofs.box_lines.take_boxes.Given as goal

-- Each line closes one place and opens at most two, so no more are due than bytes were read.
abbrev pub invariant-loop-due : goal.invariant-loop-due
invariant-loop-due l = record {
  room : l.due + length l.rest ≤ length l.bytes + 1;
  so_far : BothSoFar (map bnode_of l.nodes.items) (items_read (by_fields (box_at true)) box_count (lines_of l.rest) l.due) (items_read (by_fields (box_at false)) box_count (lines_of l.rest) l.due)
      (boxes_read true (lines_of l.bytes)) (boxes_read false (lines_of l.bytes));
}

abbrev pub decreases-loop-due : goal.decreases-loop-due
decreases-loop-due l = length l.rest
