-- The answers of the search for a least value.
use Rattle.std.specs.Prelude.{◌≡◌, ◌+◌, ◌-◌, ◌*◌, ◌≤◌, ◌⊎◌, ℤ, pos, ◌<ℤ◌, List, length}
use Rattle.zr_base.specs.Fractions.{Fraction}
use Rattle.zr_io.specs.declared.purse.Purse.{Purse}
use Rattle.zr_game.specs.Players.{PlayerOf}
use Rattle.zr_game.specs.Leaves.{root_leaf}
use Rattle.zr_game.specs.Rays.{IsRay, change_of}
use Rattle.zr_tree.specs.Trees.{TreeOf}
use Rattle.zr_tree.specs.Listed.{IsTreeOf}
use Rattle.zr_tree.specs.Right.{IsRefuted, IsRight, IsRightBy}
use Rattle.zr_asked.specs.OpenTrees.{IsOpenTree, units}
use Rattle.zr_asked.specs.Stuck.{Aims, IsPlainAim}
use Rattle.zr_asked.specs.Drawn.{IsDrawnEnd, IsDrawnPoint, IsDrawnRay}
use Rattle.zr_bnb.specs.declared.answer.LeastAnswer.{LeastAnswer}
use Rattle.zr_bnb.specs.declared.answer.LeastAnswer.TheVariants.{At, Empty, Below}
use Rattle.zr_branch.specs.Values.{aim_value}
use Rattle.zr_bnb.specs.Values.{IsLeastAt, IsLeastValue, least_row, scaled_aim}

-- what may be asked: the aim, the aim times the denominator of its least value, zero, and plus or
-- minus one variable
abbrev pub MayAsk : PlayerOf → List ℤ → Aims
MayAsk player aim a =
    (a ≡ aim) ⊎ (((f : Fraction) × IsLeastValue player aim f × (a ≡ scaled_aim f aim))
    ⊎ IsPlainAim player a)

-- the tree is open, its units are the branches that were spent, and its ends are drawn from
-- questions with these aims
pub record IsSearchTree (player : PlayerOf) (aim : List ℤ) (old new : Purse)
    (t : TreeOf) : Type 0 where
  pub open_is : IsOpenTree player (root_leaf player) t
  pub spent : new.branches ≡ old.branches + units t
  pub drawn : IsRightBy (IsDrawnEnd player (MayAsk player aim)) player (root_leaf player) t

-- the point has the least value, and the tree proves that none is lower; or the tree leaves no
-- point; or the aim falls along a ray
abbrev pub IsLeastAnswer : PlayerOf → List ℤ → Purse → Purse → LeastAnswer → Type 0
IsLeastAnswer player aim old new (At point value tree) =
    (t : TreeOf) × IsLeastAt player aim value point
    × IsDrawnPoint player (MayAsk player aim) point × IsTreeOf tree t
    × IsRight player (least_row aim value) (root_leaf player) t × IsSearchTree player aim old new t
IsLeastAnswer player aim old new (Empty tree) =
    (t : TreeOf) × IsTreeOf tree t × IsRefuted player (root_leaf player) t
    × IsSearchTree player aim old new t
IsLeastAnswer player aim old new (Below base dir) =
    IsRay player base dir.items × (aim_value player aim (change_of dir.items) <ℤ (pos 0))
    × IsDrawnPoint player (MayAsk player aim) base
    × IsDrawnRay player (MayAsk player aim) dir.items

-- the answer's tree has at most one node more than twice the branches that were spent
abbrev pub HasFewNodes : Purse → Purse → LeastAnswer → Type 0
HasFewNodes old new (At point value tree) =
    length tree.nodes.items ≤ 1 + 2 * (new.branches - old.branches)
HasFewNodes old new (Empty tree) =
    length tree.nodes.items ≤ 1 + 2 * (new.branches - old.branches)
HasFewNodes old new (Below base dir) = Unit {0}
