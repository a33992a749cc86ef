use Rattle.std.proofs.Common.{◌≡◌, pos}
use Rattle.zr_game.proofs.Checks.{Checked}
use Rattle.zr_tree.proofs.end.are_zero.Given as goal

abbrev pub invariant-loop-sum : goal.invariant-loop-sum
invariant-loop-sum l = Checked l.sum-index (λ j sum. sum ≡ pos 0) l.sums l.all
