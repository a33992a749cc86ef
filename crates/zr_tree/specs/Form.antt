-- What every list of nodes keeps: it is one whole tree, and its numbers are within the limits.
use Rattle.std.specs.Prelude.{◌≡◌, ℕ, zero, suc, ◌+◌, ◌^◌, ◌<◌, ℤ, pos, negsuc, ◌≤ℤ◌, Bool, true, false, List, [], ◌∷◌, length}
use Rattle.std.specs.List.{All}
use Rattle.zr_base.specs.Steps.{IsNarrow}
use Rattle.zr_base.specs.Terms.{AscendWith}
use Rattle.zr_tree.specs.Nodes.{Multipliers, NodeOf, SplitNode, ChooseNode, ProofNode, KnownNode, LooseNode}

-- how many children a node has
abbrev pub child_count : NodeOf → ℕ
child_count (SplitNode v at) = 2
child_count (ChooseNode p) = 2
child_count (ProofNode scale mult) = 0
child_count (KnownNode x) = 0
child_count LooseNode = 0

-- so many trees follow one another in the list, and nothing after them
abbrev pub is_forest : ℕ → List NodeOf → Bool
is_forest zero [] = true
is_forest zero (node ∷ nodes) = false
is_forest (suc due) [] = false
is_forest (suc due) (node ∷ nodes) = is_forest (child_count node + due) nodes

-- multipliers are at least 1 and narrow, and their slots ascend
abbrev pub AreMultipliers : Multipliers → Type 0
AreMultipliers mult = AscendWith (λ z. ((pos 1) ≤ℤ z) × IsNarrow z) 0 (2 ^ 32) mult

-- a variable is split at a number from -2^62 to 2^62 - 1
abbrev pub least_split : ℤ
least_split = negsuc 4611686018427387903

abbrev pub greatest_split : ℤ
greatest_split = pos 4611686018427387903

abbrev pub IsNodeForm : NodeOf → Type 0
IsNodeForm (SplitNode v at) = (least_split ≤ℤ at) × (at ≤ℤ greatest_split)
IsNodeForm (ChooseNode p) = Unit {0}
IsNodeForm (ProofNode scale mult) = ((pos 0) ≤ℤ scale) × IsNarrow scale × AreMultipliers mult
IsNodeForm (KnownNode x) = Unit {0}
IsNodeForm LooseNode = Unit {0}

pub record IsTree (nodes : List NodeOf) : Type 0 where
  pub whole : is_forest 1 nodes ≡ true
  pub few : length nodes < 2 ^ 32
  pub forms : All IsNodeForm nodes
