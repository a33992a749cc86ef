-- A walk that goes back along its path.
use Rattle.std.proofs.Common.{◌≡◌, ◌≤◌, length}
use Rattle.zr_game.specs.Players.{GameOf}
use Rattle.zr_system.specs.Regions.{LeavesOf}
use Rattle.zr_refute.specs.declared.path.CasePath.{CasePath}
use Rattle.zr_refute.specs.Walks.{IsPathOf, due_of}

-- as far as it went, the same paths are due
pub record Going (game : GameOf) (leaves : LeavesOf) (old new : CasePath) : Type 0 where
  pub due : due_of leaves old ≡ due_of leaves new
  pub path : IsPathOf game leaves new
  pub size : length new.choices.items ≡ length old.choices.items
  pub depth : new.depth ≤ old.depth
