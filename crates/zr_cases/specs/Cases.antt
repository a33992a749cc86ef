-- The nodes of refutations and of box trees, as content.
use Rattle.std.specs.Prelude.{ℕ, ℤ}
use Rattle.zr_base.specs.Points.{PointOf}
use Rattle.zr_tree.specs.Nodes.{Multipliers}
use Rattle.zr_cases.specs.declared.rnode.RNode.{RNode}
use Rattle.zr_cases.specs.declared.rnode.RNode.TheVariants.{OnOff, RowSplit, Which, Close}
use Rattle.zr_cases.specs.declared.bnode.BNode.{BNode}
use Rattle.zr_cases.specs.declared.bnode.BNode.TheVariants.{Split, Empty, Deviate}

-- cases of a player's leaf, of a leaf's slot, of all leaves of a player; and rows that are refuted
pub data RNodeOf : Type 0 where
  OnOffNode : ℕ → ℕ → RNodeOf
  RowNode : ℕ → ℕ → ℕ → RNodeOf
  WhichNode : ℕ → RNodeOf
  CloseNode : Multipliers → RNodeOf

abbrev pub rnode_of : RNode → RNodeOf
rnode_of (OnOff player leaf) = OnOffNode player leaf
rnode_of (RowSplit player leaf slot) = RowNode player leaf slot
rnode_of (Which player) = WhichNode player
rnode_of (Close mult) = CloseNode mult.items

-- cases of a player's variable; a player without a point in the box, or with a better one
pub data BNodeOf : Type 0 where
  CutNode : ℕ → ℕ → ℤ → BNodeOf
  EmptyNode : ℕ → Multipliers → BNodeOf
  DeviateNode : ℕ → PointOf → BNodeOf

abbrev pub bnode_of : BNode → BNodeOf
bnode_of (Split player var at) = CutNode player var at
bnode_of (Empty player mult) = EmptyNode player mult.items
bnode_of (Deviate player point) = DeviateNode player point
