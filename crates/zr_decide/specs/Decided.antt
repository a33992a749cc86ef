-- The covers over whose leaves the system is decided.
use Rattle.std.specs.Prelude.{◌≡◌, ℕ, List, [], Some, length, map, slice_get, ◌⊎◌, ◌≤◌}
use Rattle.zr_game.specs.Forms.{IsPlayer}
use Rattle.zr_game.specs.Leaves.{root_leaf}
use Rattle.zr_game.specs.Named.{NamedOf}
use Rattle.zr_game.specs.Players.{GameOf, PlayerOf}
use Rattle.zr_game.specs.Rays.{ChangesWhole, Direction, HasWholeRay}
use Rattle.zr_tree.specs.Covers.{IsCoverTree}
use Rattle.zr_tree.specs.Right.{IsRightBy}
use Rattle.zr_tree.specs.Trees.{TreeOf, Loose, preorder}
use Rattle.zr_asked.specs.Drawn.{IsDrawnEnd, IsDrawnRay}
use Rattle.zr_asked.specs.OpenTrees.{IsOpenTree}
use Rattle.zr_asked.specs.Stuck.{IsPlainAim}
use Rattle.zr_cert.specs.Forms.{leaf_count}
use Rattle.zr_cover.specs.Covers.{HasNoLoose}
use Rattle.zr_refute.specs.Covered.{covered}
use Rattle.zr_system.specs.Regions.{LeavesOf}
use Rattle.zr_system.specs.System.{cell_count}

-- a cover without a loose node, open, whose ends are drawn from questions
pub record IsSettledCover (player : PlayerOf) (t : TreeOf) : Type 0 where
  pub cover : IsCoverTree player (root_leaf player) t
  pub exact : HasNoLoose t
  pub open_is : IsOpenTree player (root_leaf player) t
  pub drawn : IsRightBy (IsDrawnEnd player (IsPlainAim player)) player (root_leaf player) t

-- a ray of the relaxation, drawn from a question, changes the whole variable
abbrev pub IsDrawnWholeRay : PlayerOf → ℕ → Direction → Type 0
IsDrawnWholeRay player var dir =
    ChangesWhole player dir var × IsDrawnRay player (IsPlainAim player) dir

-- some node is known or loose
abbrev pub HasLeaf : TreeOf → Type 0
HasLeaf t = 1 ≤ leaf_count (preorder t)

-- a cover without a loose node that has a leaf; or the player's points as one loose leaf, where a
-- ray of the relaxation changes a whole variable
abbrev pub IsDecidedCover : PlayerOf → TreeOf → Type 0
IsDecidedCover player t =
    (IsSettledCover player t × HasLeaf t) ⊎ ((t ≡ Loose) × HasWholeRay player)

-- one for each player
pub record AreDecidedCovers (game : GameOf) (trees : List TreeOf) : Type 0 where
  pub len : length trees ≡ length game
  pub each : (i : ℕ) (player : PlayerOf) (t : TreeOf) → IsPlayer game i player
      → slice_get trees i ≡ Some t → IsDecidedCover player t

-- nothing is named of any player
abbrev pub no_names : GameOf → List (List NamedOf)
no_names game = map (λ player. []) game

-- the leaves of the covers, with nothing named
abbrev pub decided_leaves : GameOf → List TreeOf → LeavesOf
decided_leaves game trees = covered game trees (no_names game)

-- the system of a game with more cells isn't built
abbrev pub cell_limit : ℕ
cell_limit = 16777216

-- such covers over whose leaves the system has no more cells than that
pub record AreSmallCovers (game : GameOf) (trees : List TreeOf) : Type 0 where
  pub covers : AreDecidedCovers game trees
  pub within : cell_count game (decided_leaves game trees) ≤ cell_limit
