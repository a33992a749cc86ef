use Rattle.std.proofs.Common.{false, length}
use Rattle.std.specs.Prelude.{option_copied}
use Rattle.zr_form.specs.Code.{left_of}
use Rattle.zr_lines.specs.Reader.{multipliers}
use Rattle.zr_lines.proofs.LooseSteps.{PairsSoFar}
use Rattle.zr_lines.proofs.loose_multipliers.are_counted.Given as goal

abbrev pub invariant-loop-rest : goal.invariant-loop-rest
invariant-loop-rest l =
    PairsSoFar (multipliers false (left_of (option_copied l.left))) (multipliers false (left_of (option_copied l.rest))) l.pairs l.last (length (left_of (option_copied l.rest))) (length (left_of (option_copied l.left)))

abbrev pub decreases-loop-rest : goal.decreases-loop-rest
decreases-loop-rest l = length (left_of (option_copied l.rest))
