-- Exact covers of a player's points.
use Rattle.std.specs.Prelude.{◌≡◌, ◌+◌}
use Rattle.zr_io.specs.declared.purse.Purse.{Purse}
use Rattle.zr_game.specs.Players.{PlayerOf}
use Rattle.zr_game.specs.Leaves.{root_leaf}
use Rattle.zr_tree.specs.declared.tree.Tree.{Tree}
use Rattle.zr_tree.specs.Covers.{IsCoverTree}
use Rattle.zr_tree.specs.Listed.{IsTreeOf}
use Rattle.zr_tree.specs.Right.{IsRightBy}
use Rattle.zr_tree.specs.Trees.{TreeOf, Split, Choose, Proof, Known, Loose}
use Rattle.zr_asked.specs.Drawn.{IsDrawnEnd}
use Rattle.zr_asked.specs.OpenTrees.{IsOpenTree, units}
use Rattle.zr_asked.specs.Stuck.{IsPlainAim}

-- no node is loose
abbrev pub HasNoLoose : TreeOf → Type 0
HasNoLoose (Split v at first second) = HasNoLoose first × HasNoLoose second
HasNoLoose (Choose p first second) = HasNoLoose first × HasNoLoose second
HasNoLoose (Proof scale mult) = Unit {0}
HasNoLoose (Known x) = Unit {0}
HasNoLoose Loose = ⊥

-- the tree is a cover without a loose node; it is open, its units are the branches that were
-- spent, and its ends are drawn from questions whose aims are zero, or plus or minus one variable
pub record IsExactCover (player : PlayerOf) (old new : Purse) (t : TreeOf) : Type 0 where
  pub cover : IsCoverTree player (root_leaf player) t
  pub exact : HasNoLoose t
  pub open_is : IsOpenTree player (root_leaf player) t
  pub spent : new.branches ≡ old.branches + units t
  pub drawn : IsRightBy (IsDrawnEnd player (IsPlainAim player)) player (root_leaf player) t

-- the code's tree is such a one
abbrev pub IsExactCoverOf : PlayerOf → Purse → Purse → Tree → Type 0
IsExactCoverOf player old new tree = (t : TreeOf) × IsTreeOf tree t × IsExactCover player old new t
