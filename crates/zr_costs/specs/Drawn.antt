-- Trees of bounds that are open, with ends drawn from the bases of questions.
use Rattle.std.specs.Prelude.{◌≡◌, ℕ, Some, List, slice_get}
use Rattle.zr_game.specs.Forms.{IsPlayer}
use Rattle.zr_game.specs.Leaves.{root_leaf}
use Rattle.zr_game.specs.Players.{GameOf, PlayerOf}
use Rattle.zr_game.specs.Profiles.{Profile}
use Rattle.zr_tree.specs.Nodes.{NodeOf}
use Rattle.zr_tree.specs.Right.{IsRightBy}
use Rattle.zr_tree.specs.Trees.{TreeOf, preorder}
use Rattle.zr_asked.specs.Drawn.{IsDrawnEnd}
use Rattle.zr_asked.specs.OpenTrees.{IsOpenTree}
use Rattle.zr_asked.specs.Stuck.{Aims}
use Rattle.zr_cert.specs.Certs.{BoundOf}
use Rattle.zr_costs.specs.Causes.{MayAskOwn}

-- the nodes are those of an open tree over all points of the player, whose ends are drawn from
-- questions with these aims
pub record IsDrawnTree (player : PlayerOf) (MayAsk : Aims) (nodes : List NodeOf) : Type 0 where
  pub tree : TreeOf
  pub listed : preorder tree ≡ nodes
  pub open_is : IsOpenTree player (root_leaf player) tree
  pub drawn : IsRightBy (IsDrawnEnd player MayAsk) player (root_leaf player) tree

-- the tree of player i's bound is one, with the aims that may be asked of its cost in the profile
abbrev pub IsDrawnBound : PlayerOf → ℕ → Profile → BoundOf → Type 0
IsDrawnBound player i profile bound = IsDrawnTree player (MayAskOwn i player profile) bound.tree

-- that of each player's bound is
abbrev pub AreDrawnBounds : GameOf → Profile → List BoundOf → Type 0
AreDrawnBounds game profile bounds =
    (i : ℕ) (player : PlayerOf) → IsPlayer game i player
    → (bound : BoundOf) × (slice_get bounds i ≡ Some bound) × IsDrawnBound player i profile bound
