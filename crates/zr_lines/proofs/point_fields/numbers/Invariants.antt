use Rattle.std.proofs.Common.{◌≡◌, true, length}
use Rattle.std.specs.Prelude.{option_copied}
use Rattle.zr_form.specs.Bounds.{is_narrow}
use Rattle.zr_form.specs.Code.{left_of}
use Rattle.zr_form.specs.Fields.{integers}
use Rattle.zr_lines.proofs.NodeSteps.{with_front}
use Rattle.zr_lines.proofs.point_fields.numbers.Given as goal

-- what was read, and then what is left, is the whole
abbrev pub invariant-loop-rest : goal.invariant-loop-rest
invariant-loop-rest l = with_front l.nums.items (integers (is_narrow true) (left_of (option_copied l.rest))) ≡ integers (is_narrow true) (left_of (option_copied l.fn.left))

abbrev pub decreases-loop-rest : goal.decreases-loop-rest
decreases-loop-rest l = length (left_of (option_copied l.rest))
