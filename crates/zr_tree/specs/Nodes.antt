-- The nodes of a tree, as content.
use Rattle.std.specs.Prelude.{ℕ, ℤ, List}
use Rattle.zr_base.specs.Points.{PointOf}
use Rattle.zr_tree.specs.declared.node.Node.{Node}
use Rattle.zr_tree.specs.declared.node.Node.TheVariants.{Split, Choose, Leaf, Known, Loose}

-- multipliers by slot
abbrev pub Multipliers : Type 0
Multipliers = List (ℕ × ℤ)

pub data NodeOf : Type 0 where
  SplitNode : ℕ → ℤ → NodeOf
  ChooseNode : ℕ → NodeOf
  ProofNode : ℤ → Multipliers → NodeOf
  KnownNode : PointOf → NodeOf
  LooseNode : NodeOf

abbrev pub node_of : Node → NodeOf
node_of (Split var at) = SplitNode var at
node_of (Choose pair) = ChooseNode pair
node_of (Leaf scale mult) = ProofNode scale mult.items
node_of (Known point) = KnownNode point
node_of Loose = LooseNode
