use Rattle.std.proofs.Common.{◌≡◌, ◌+◌, ◌≤◌, false, length}
use Rattle.std.specs.Prelude.{option_copied, option_map}
use Rattle.zr_form.specs.Bounds.{is_narrow}
use Rattle.zr_form.specs.Code.{left_of}
use Rattle.zr_form.specs.Fields.{integers}
use Rattle.zr_lines.proofs.loose_point.number_count.Given as goal

-- what was counted, and then what is left, are all; and no more were counted than there are fields
abbrev pub invariant-loop-rest : goal.invariant-loop-rest
invariant-loop-rest l = record {
  room : l.count + length (left_of (option_copied l.rest)) ≤ length (left_of (option_copied l.fn.left));
  so_far : option_map (λ ns. l.count + length ns) (integers (is_narrow false) (left_of (option_copied l.rest))) ≡ option_map length (integers (is_narrow false) (left_of (option_copied l.fn.left)));
}

abbrev pub decreases-loop-rest : goal.decreases-loop-rest
decreases-loop-rest l = length (left_of (option_copied l.rest))
