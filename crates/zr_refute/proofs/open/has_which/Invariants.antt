use Rattle.std.proofs.Common.{◌≡◌, ℕ, ◌<◌, get_or}
use Rattle.zr_game.specs.declared.choice.Choice.TheVariants.{Which}
use Rattle.zr_refute.proofs.open.has_which.Given as goal

abbrev pub invariant-loop-made : goal.invariant-loop-made
invariant-loop-made l =
    (m k : ℕ) → m < l.made-index → get_or l.path m (Which l.i k) ≡ Which l.i k → ⊥
