use Rattle.std.proofs.Common.{◌≡◌, slice_index_or}
use Rattle.zr_game.specs.declared.leaf.Side.TheVariants.{Undecided}
use Rattle.zr_game.proofs.Checks.{Checked}
use Rattle.zr_tree.proofs.known.are_decided.Given as goal

abbrev pub invariant-loop-p : goal.invariant-loop-p
invariant-loop-p l =
    Checked l.p (λ p pair. slice_index_or l.sides p Undecided ≡ Undecided → ⊥) l.pairs l.all
