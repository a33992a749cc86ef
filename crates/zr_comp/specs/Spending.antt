-- What is spent on the way.
use Rattle.std.specs.Prelude.{◌≡◌, ℕ, ◌+◌, ◌≤◌}
use Rattle.zr_io.specs.declared.purse.Purse.{Purse}

-- pivots were counted, and branches alone were spent
pub record SpendsBranches (old new : Purse) : Type 0 where
  pub limit : new.limit ≡ old.limit
  pub cuts : new.cuts ≡ old.cuts
  pub pivots : old.pivots ≤ new.pivots
  pub branches : old.branches ≤ new.branches

-- and at most so many
pub record SpendsUpTo (old new : Purse) (most : ℕ) : Type 0 where
  pub alone : SpendsBranches old new
  pub few : new.branches ≤ old.branches + most
