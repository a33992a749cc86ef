use Rattle.std.proofs.Common.{◌≤◌, ◌+◌, ◌*◌, ◌^◌, map, true, false, length}
use Rattle.zr_cases.specs.Forms.{case_count}
use Rattle.zr_cases.specs.Cases.{rnode_of}
use Rattle.zr_form.specs.Lines.{by_fields, lines_of}
use Rattle.zr_form.specs.Reading.{items_read}
use Rattle.zr_form.proofs.Composing.{BothSoFar}
use Rattle.zr_lines.specs.Reader.{case_at, cases_read}
use Rattle.zr_lines.proofs.case_lines.take_cases.Given as goal

-- Each line closes one place and opens fewer than 2^32, so no more are due than 2^32 for each byte that was read.
abbrev pub invariant-loop-due : goal.invariant-loop-due
invariant-loop-due l = record {
  room : l.due + length l.rest * (2 ^ 32) ≤ length l.bytes * (2 ^ 32) + 1;
  within : length l.rest ≤ length l.bytes;
  so_far : BothSoFar (map rnode_of l.nodes.items) (items_read (by_fields (case_at true (length l.leaves))) (case_count l.leaves) (lines_of l.rest) l.due) (items_read (by_fields (case_at false (length l.leaves))) (case_count l.leaves) (lines_of l.rest) l.due)
      (cases_read true l.leaves (lines_of l.bytes)) (cases_read false l.leaves (lines_of l.bytes));
}

abbrev pub decreases-loop-due : goal.decreases-loop-due
decreases-loop-due l = length l.rest
