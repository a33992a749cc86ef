use Rattle.std.proofs.Common.{◌≡◌, pos, ◌*ℤ◌, slice_index_or}
use Rattle.zr_base.proofs.Telling.{Tested}
use Rattle.zr_tree.proofs.ProofLaws.{scaled_wide}
use Rattle.zr_tree.proofs.proof.matches.Given as goal

abbrev pub invariant-loop-j : goal.invariant-loop-j
invariant-loop-j l =
    Tested l.j (λ j c. slice_index_or l.sums j (pos 0) ≡ l.scale *ℤ c) (scaled_wide l.scale) l.coef l.all
