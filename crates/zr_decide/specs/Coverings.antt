-- The players' covers as they are made, one after another.
use Rattle.std.specs.Prelude.{◌≡◌, ℕ, ◌+◌, ◌*◌, ◌≤◌, Option, Some, None, List, length, map, slice_get, ◌⊎◌}
use Rattle.std.specs.List.{All}
use Rattle.zr_base.specs.Points.{IsPoint}
use Rattle.zr_io.specs.declared.purse.Purse.{Purse}
use Rattle.zr_io.specs.Purses.{counted}
use Rattle.zr_game.specs.Forms.{IsPlayer}
use Rattle.zr_game.specs.Players.{GameOf, PlayerOf}
use Rattle.zr_game.specs.Rays.{HasWholeRay}
use Rattle.zr_tree.specs.declared.tree.Tree.{Tree}
use Rattle.zr_tree.specs.Nodes.{NodeOf, SplitNode, ChooseNode, ProofNode, KnownNode, LooseNode}
use Rattle.zr_tree.specs.Trees.{TreeOf, Loose, preorder}
use Rattle.zr_asked.specs.Stuck.{IsPlainAim, IsStuckAsked}
use Rattle.zr_bnb.specs.Causes.{HasMoreWork}
use Rattle.zr_cert.specs.Certs.{nodes_of}
use Rattle.zr_cert.specs.Forms.{IsCoverNode, IsEmptyNode, IsTreeWith}
use Rattle.zr_cert.specs.Lines.{sum_lines, tree_lines}
use Rattle.zr_check.specs.Right.{IsEmptyTree}
use Rattle.zr_costs.specs.Drawn.{IsDrawnTree}
use Rattle.zr_cover.specs.Covers.{HasNoLoose}
use Rattle.zr_decide.specs.declared.covers.WholeRay.{WholeRay}
use Rattle.zr_decide.specs.declared.covers.Covering.{Covering}
use Rattle.zr_decide.specs.declared.covers.Covering.TheVariants as ACovering
use Rattle.zr_decide.specs.declared.stop.DecideStop.{DecideStop}
use Rattle.zr_decide.specs.declared.stop.DecideStop.TheVariants as AStop
use Rattle.zr_decide.specs.Decided.{IsDecidedCover, IsDrawnWholeRay, IsSettledCover}
use Rattle.zr_decide.specs.Causes.{IsFirstLoose}

-- a known point keeps the rules of points
abbrev pub HasPointForm : NodeOf → Type 0
HasPointForm (SplitNode v at) = Unit {0}
HasPointForm (ChooseNode p) = Unit {0}
HasPointForm (ProofNode scale mult) = Unit {0}
HasPointForm (KnownNode x) = IsPoint x.num x.den
HasPointForm LooseNode = Unit {0}

-- the player's cover is loose where a ray is kept for it, and then only
abbrev pub IsOpenCover : PlayerOf → ℕ → TreeOf → Option WholeRay → Type 0
IsOpenCover player i t None = HasNoLoose t
IsOpenCover player i t (Some ray) =
    (t ≡ Loose) × (ray.player ≡ i) × IsDrawnWholeRay player ray.var ray.dir.items

-- a cover as it is made: without a loose node; or one loose leaf, where a ray of the relaxation
-- changes a whole variable
abbrev pub IsMadeCover : PlayerOf → TreeOf → Type 0
IsMadeCover player t = IsSettledCover player t ⊎ ((t ≡ Loose) × HasWholeRay player)

-- the nodes are those of such a cover of player i
pub record IsCoverOf (player : PlayerOf) (i : ℕ) (nodes : List NodeOf) (ray : Option WholeRay)
    : Type 0 where
  pub tree : TreeOf
  pub listed : preorder tree ≡ nodes
  pub made : IsMadeCover player tree
  pub form : IsTreeWith IsCoverNode nodes
  pub open_is : IsOpenCover player i tree ray

-- why player i has no decided cover
abbrev pub IsCoverStop : ℕ → PlayerOf → Purse → Purse → DecideStop → Type 0
IsCoverStop i player old new AStop.Spent =
    (counted new ≡ new.limit) × HasMoreWork player old
IsCoverStop i player old new (AStop.Wide asked) =
    IsStuckAsked i player (IsPlainAim player) asked
IsCoverStop i player old new (AStop.Step wide) = ⊥
IsCoverStop i player old new (AStop.Endless k var dir named) = ⊥
IsCoverStop i player old new (AStop.TooLarge cells) = ⊥
IsCoverStop i player old new AStop.NoMemory = Unit {0}

-- no cover is loose; or the ray is one of the first player whose cover is
abbrev pub IsFirstOpen : GameOf → List TreeOf → Option WholeRay → Type 0
IsFirstOpen game trees None =
    (k : ℕ) (t : TreeOf) → slice_get trees k ≡ Some t → HasNoLoose t
IsFirstOpen game trees (Some ray) =
    IsFirstLoose trees ray.player
    × (player : PlayerOf) × IsPlayer game ray.player player
    × IsDrawnWholeRay player ray.var ray.dir.items

-- the covers of the first n players
pub record AreCoversTo (game : GameOf) (n : ℕ) (covers : List Tree) (ray : Option WholeRay)
    : Type 0 where
  pub trees : List TreeOf
  pub listed : map preorder trees ≡ map nodes_of covers
  pub len : length trees ≡ n
  pub each : (k : ℕ) (player : PlayerOf) (t : TreeOf) → IsPlayer game k player
      → slice_get trees k ≡ Some t → IsDecidedCover player t
  pub forms : All (IsTreeWith IsCoverNode) (map nodes_of covers)
  pub open_is : IsFirstOpen game trees ray

-- the nodes show that the player has no point, by an open tree that is drawn from questions
pub record ShowsEmpty (game : GameOf) (i : ℕ) (nodes : List NodeOf) : Type 0 where
  pub player : PlayerOf
  pub is_player : IsPlayer game i player
  pub shown : IsEmptyTree player nodes
  pub drawn : IsDrawnTree player (IsPlainAim player) nodes
  pub form : IsTreeWith IsEmptyNode nodes
  pub few : length nodes ≤ 2000000001

-- a player has no point; or each player has a decided cover, and the nodes are few by the branches
-- that were spent
abbrev pub IsCovering : GameOf → ℕ → Covering → Type 0
IsCovering game branches (ACovering.Empty i tree) = ShowsEmpty game i (nodes_of tree)
IsCovering game branches (ACovering.All covers) =
    AreCoversTo game (length game) covers.trees.items covers.ray
    × (sum_lines tree_lines (map nodes_of covers.trees.items) ≤ length game + 2 * branches)
