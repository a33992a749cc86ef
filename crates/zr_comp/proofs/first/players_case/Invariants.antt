use Rattle.std.proofs.Common.{ℕ, ◌<◌}
use Rattle.zr_system.specs.Regions.{leaves_of}
use Rattle.zr_comp.specs.Cases.{HasChosen}
use Rattle.zr_comp.proofs.first.players_case.Given as goal

abbrev pub invariant-loop-i : goal.invariant-loop-i
invariant-loop-i l = (j : ℕ) → j < l.i → HasChosen (leaves_of l.leaves) l.path j
