-- That a list of nodes is one tree is a fact with one proof at most.
use Rattle.std.specs.Prelude.{◌^◌, ℤ, pos, ◌≤ℤ◌, List}
use Rattle.std.specs.Coded.{codes}
use Rattle.zr_base.specs.Steps.{IsNarrow}
use Rattle.zr_game.specs.FormLaws.{AscendWith-prop}
use Rattle.zr_tree.specs.Nodes.{Multipliers, NodeOf, SplitNode, ChooseNode, ProofNode, KnownNode, LooseNode}
use Rattle.zr_tree.specs.Form.{AreMultipliers, IsNodeForm, IsTree}

multiplier_prop : (z : ℤ) → IsProp (((pos 1) ≤ℤ z) × IsNarrow z)
multiplier_prop z = hlevel codes

multipliers_prop : (mult : Multipliers) → IsProp (AreMultipliers mult)
multipliers_prop mult = AscendWith-prop (λ z. ((pos 1) ≤ℤ z) × IsNarrow z) multiplier_prop 0 (2 ^ 32) mult

node_prop : (node : NodeOf) → IsProp (IsNodeForm node)
node_prop (SplitNode v at) = hlevel codes
node_prop (ChooseNode p) = hlevel codes
node_prop (ProofNode scale mult) = hlevel (codes, multipliers_prop)
node_prop (KnownNode x) = hlevel codes
node_prop LooseNode = hlevel codes

pub IsTree-prop : (nodes : List NodeOf) → IsProp (IsTree nodes)
IsTree-prop nodes = hlevel (codes, node_prop)
