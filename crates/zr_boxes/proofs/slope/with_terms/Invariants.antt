use Rattle.std.proofs.Common.{◌==◌}
use Rattle.zr_boxes.specs.Paths.{box_of}
use Rattle.zr_boxes.specs.Ranges.{end_at, range_of}
use Rattle.zr_boxes.proofs.SumsOnward.{FilteredOnward}
use Rattle.zr_boxes.proofs.slope.with_terms.Given as goal

abbrev pub invariant-loop-term : goal.invariant-loop-term
invariant-loop-term l =
    FilteredOnward (λ t. t.own == l.v)
    (λ t. (t.coef, end_at l.end t.coef (range_of (box_of l.leaves) t.player t.var))) l.fn.start
    l.cross l.term-index l.sum
