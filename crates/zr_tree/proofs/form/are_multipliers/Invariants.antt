use Rattle.std.proofs.Common.{◌^◌, pos, ◌≤ℤ◌}
use Rattle.zr_base.specs.Steps.{IsNarrow}
use Rattle.zr_game.proofs.Checks.{Ascending}
use Rattle.zr_tree.proofs.form.are_multipliers.Given as goal

abbrev pub invariant-loop-number : goal.invariant-loop-number
invariant-loop-number l = Ascending (λ z. ((pos 1) ≤ℤ z) × IsNarrow z) (2 ^ 32) l.mult l.number-index l.low l.all
