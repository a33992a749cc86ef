use Rattle.std.proofs.Common.{◌≡◌, ℕ, ◌<◌, get_or}
use Rattle.zr_game.specs.declared.choice.Choice.TheVariants.{Off, On}
use Rattle.zr_refute.proofs.open.has_side.Given as goal

abbrev pub invariant-loop-made : goal.invariant-loop-made
invariant-loop-made l = record {
  none_on : (m k : ℕ) → m < l.made-index → get_or l.path m (On l.i k) ≡ On l.i k → ⊥;
  none_off : (m k : ℕ) → m < l.made-index → get_or l.path m (Off l.i k) ≡ Off l.i k → ⊥;
}
