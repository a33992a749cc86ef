-- The work of finding every player's least cost.
use Rattle.std.specs.Prelude.{◌≡◌, ℕ, ◌+◌, ◌<◌, ◌≤◌, List, [], ◌∷◌}
use Rattle.zr_io.specs.declared.purse.Purse.{Purse}
use Rattle.zr_io.specs.Purses.{counted}
use Rattle.zr_game.specs.Players.{GameOf}
use Rattle.zr_game.specs.Leaves.{root_leaf}
use Rattle.zr_tree.specs.Trees.{TreeOf}
use Rattle.zr_asked.specs.OpenTrees.{IsOpenTree, units}

-- one open tree per player, over all its points
abbrev pub AreOpenTrees : GameOf → List TreeOf → Type 0
AreOpenTrees [] [] = Unit {0}
AreOpenTrees [] (t ∷ ts) = ⊥
AreOpenTrees (player ∷ players) [] = ⊥
AreOpenTrees (player ∷ players) (t ∷ ts) =
    IsOpenTree player (root_leaf player) t × AreOpenTrees players ts

abbrev pub all_units : List TreeOf → ℕ
all_units [] = 0
all_units (t ∷ ts) = units t + all_units ts

-- there is more work than the purse had left: open trees, one per player, have together more units
abbrev pub HasMoreBestWork : GameOf → Purse → Type 0
HasMoreBestWork game purse =
    (trees : List TreeOf) × AreOpenTrees game trees × (purse.limit < counted purse + all_units trees)

-- no more branches were spent than open trees, one per player, have units, and no cuts
pub record SpendsBestWork (game : GameOf) (old new : Purse) : Type 0 where
  pub limit : new.limit ≡ old.limit
  pub cuts : new.cuts ≡ old.cuts
  pub pivots : old.pivots ≤ new.pivots
  pub branches : old.branches ≤ new.branches
  pub trees : List TreeOf
  pub open_are : AreOpenTrees game trees
  pub units_are : new.branches ≤ old.branches + all_units trees
