-- What the nodes of refutations and of box trees keep.
use Rattle.std.specs.Prelude.{◌≡◌, ℕ, zero, suc, ◌+◌, ◌^◌, ◌<◌, ◌≤ℤ◌, Bool, true, false, List, [], ◌∷◌, length, slice_index_or}
use Rattle.std.specs.List.{All}
use Rattle.zr_base.specs.Points.{IsPoint, PointOf}
use Rattle.zr_tree.specs.Form.{AreMultipliers, greatest_split, least_split}
use Rattle.zr_tree.specs.Nodes.{Multipliers}
use Rattle.zr_cases.specs.Cases.{RNodeOf, OnOffNode, RowNode, WhichNode, CloseNode, BNodeOf, CutNode, EmptyNode, DeviateNode}

-- so many trees follow one another in the list, and nothing after them, where a node has so many children
abbrev pub is_forest_by : {X : Type 0} → (X → ℕ) → ℕ → List X → Bool
is_forest_by count zero [] = true
is_forest_by count zero (node ∷ nodes) = false
is_forest_by count (suc due) [] = false
is_forest_by count (suc due) (node ∷ nodes) = is_forest_by count (count node + due) nodes

-- multipliers are at least 1, their rows ascend, and there are fewer than 2^32
abbrev pub AreCounted : Multipliers → Type 0
AreCounted mult = AreMultipliers mult × (length mult < 2 ^ 32)

-- a point of at least one number
abbrev pub IsSomePoint : PointOf → Type 0
IsSomePoint x = (0 < length x.num) × IsPoint x.num x.den

-- ---- refutations

-- how many cases a node makes, where player i has the i-th of these numbers of leaves
abbrev pub case_count : List ℕ → RNodeOf → ℕ
case_count leaves (OnOffNode i k) = 2
case_count leaves (RowNode i k slot) = 2
case_count leaves (WhichNode i) = slice_index_or leaves i 0
case_count leaves (CloseNode mult) = 0

-- what a node names is below 2^32, and its multipliers are counted
abbrev pub IsCaseForm : RNodeOf → Type 0
IsCaseForm (OnOffNode i k) = (i < 2 ^ 32) × (k < 2 ^ 32)
IsCaseForm (RowNode i k slot) = ((i < 2 ^ 32) × (k < 2 ^ 32)) × (slot < 2 ^ 32)
IsCaseForm (WhichNode i) = i < 2 ^ 32
IsCaseForm (CloseNode mult) = AreCounted mult

-- what every refutation keeps
pub record AreCases (nodes : List RNodeOf) : Type 0 where
  pub few : length nodes < 2 ^ 32
  pub forms : All IsCaseForm nodes

-- a choice among the leaves of a player names one of so many players
abbrev pub IsAmong : ℕ → RNodeOf → Type 0
IsAmong players (OnOffNode i k) = Unit {0}
IsAmong players (RowNode i k slot) = Unit {0}
IsAmong players (WhichNode i) = i < players
IsAmong players (CloseNode mult) = Unit {0}

-- one whole tree, where the players have these numbers of leaves
pub record IsWhole (leaves : List ℕ) (nodes : List RNodeOf) : Type 0 where
  pub whole : is_forest_by (case_count leaves) 1 nodes ≡ true
  pub players : All (IsAmong (length leaves)) nodes

-- ---- box trees

-- how many boxes a node makes of one
abbrev pub box_count : BNodeOf → ℕ
box_count (CutNode i v at) = 2
box_count (EmptyNode i mult) = 0
box_count (DeviateNode i x) = 0

-- what a node names is below 2^32; a variable is split at a number from -2^62 to 2^62 - 1, multipliers are counted, and a
-- point has a number
abbrev pub IsBoxForm : BNodeOf → Type 0
IsBoxForm (CutNode i v at) = ((i < 2 ^ 32) × (v < 2 ^ 32)) × ((least_split ≤ℤ at) × (at ≤ℤ greatest_split))
IsBoxForm (EmptyNode i mult) = (i < 2 ^ 32) × AreCounted mult
IsBoxForm (DeviateNode i x) = (i < 2 ^ 32) × IsSomePoint x

pub record IsBoxTree (nodes : List BNodeOf) : Type 0 where
  pub whole : is_forest_by box_count 1 nodes ≡ true
  pub few : length nodes < 2 ^ 32
  pub forms : All IsBoxForm nodes
