use Rattle.std.proofs.Common.{ℕ, ◌<◌}
use Rattle.std.specs.List.{Contains}
use Rattle.zr_game.specs.declared.choice.Choice.TheVariants.{Which}
use Rattle.zr_comp.proofs.first.player_case.Given as goal

abbrev pub invariant-loop-k : goal.invariant-loop-k
invariant-loop-k l = (m : ℕ) → m < l.k → Contains l.path (Which l.i m) → ⊥
