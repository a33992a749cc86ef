use Rattle.std.proofs.Common.{◌≡◌, ℕ, ◌<◌, get_or}
use Rattle.zr_comp.proofs.path.has.Given as goal

abbrev pub invariant-loop-made : goal.invariant-loop-made
invariant-loop-made l = (k : ℕ) → k < l.made-index → get_or l.path k l.choice ≡ l.choice → ⊥
