-- Splits of a leaf, and the numbers at which variables are split.
use Rattle.std.specs.Prelude.{◌≡◌, ◌≢◌, ℕ, ◌+◌, ◌<◌, ℤ, pos, neg_ℤ, ◌+ℤ◌, ◌≤ℤ◌, ◌<ℤ◌, true, IfSome, Option, Some, None, List, length, slice_get, slice_index_or}
use Rattle.zr_game.specs.Players.{PlayerOf, VarOf}
use Rattle.zr_game.specs.Leaves.{IsOpenPair, LeafOf}
use Rattle.zr_tree.specs.Nodes.{NodeOf, SplitNode, ChooseNode}
use Rattle.zr_asked.specs.declared.question.Move.{Move}
use Rattle.zr_asked.specs.declared.question.Move.TheVariants as AMove
use Rattle.zr_asked.specs.Paths.{IsSplit}
use Rattle.zr_bnb.specs.Splits.{IsNear, split_limit}
use Rattle.zr_cover.specs.declared.split.Split.{Split}
use Rattle.zr_cover.specs.declared.split.Split.TheVariants as ASplit

-- both bounds are there, and equal
abbrev pub AreOneValue : Option ℤ → Option ℤ → Type 0
AreOneValue low high = (value : ℤ) × (low ≡ Some value) × (high ≡ Some value)

-- where both bounds are there, they differ; and the first is below the second
abbrev pub AreUnequal : Option ℤ → Option ℤ → Type 0
AreUnequal low high = (l h : ℤ) → low ≡ Some l → high ≡ Some h → l ≢ h

abbrev pub AreInOrder : Option ℤ → Option ℤ → Type 0
AreInOrder low high = (l h : ℤ) → low ≡ Some l → high ≡ Some h → l <ℤ h

-- each whole variable has one value
abbrev pub AreFixed : List VarOf → List (Option ℤ) → List (Option ℤ) → Type 0
AreFixed vars low high =
    (v : ℕ) (var : VarOf) → slice_get vars v ≡ Some var → var.whole ≡ true
    → AreOneValue (slice_index_or low v None) (slice_index_or high v None)

-- the variable of this number is whole, and hasn't
abbrev pub IsUnfixed : List VarOf → List (Option ℤ) → List (Option ℤ) → ℕ → Type 0
IsUnfixed vars low high v =
    (v < length vars) × ((var : VarOf) × (slice_get vars v ≡ Some var) × (var.whole ≡ true))
    × AreUnequal (slice_index_or low v None) (slice_index_or high v None)

-- the number is not below the one bound, and below the other
abbrev pub IsWithinBounds : Option ℤ → Option ℤ → ℤ → Type 0
IsWithinBounds low high at = IfSome low (λ l. l ≤ℤ at) × IfSome high (λ h. at <ℤ h)

-- the number to split at, and the one after it, are near
abbrev pub IsNearSplit : ℕ → ℤ → Type 0
IsNearSplit more at =
    (neg_ℤ (split_limit +ℤ pos (more + 1)) ≤ℤ at) × (at ≤ℤ (split_limit +ℤ pos more))

-- it is, where the bounds are near
abbrev pub StaysNear : Option ℤ → Option ℤ → ℤ → Type 0
StaysNear low high at =
    (more : ℕ) → IfSome low (IsNear more) → IfSome high (IsNear more) → IsNearSplit more at

-- a split of a whole variable at a number that is near, or a choice of an undecided pair
abbrev pub PartsLeaf : PlayerOf → LeafOf → ℕ → Split → Type 0
PartsLeaf player leaf more (ASplit.Var v at) = IsSplit player leaf v at × IsNearSplit more at
PartsLeaf player leaf more (ASplit.Pair p) = IsOpenPair player leaf p

-- the node of a split, and the moves to its two sides
abbrev pub split_node : Split → NodeOf
split_node (ASplit.Var v at) = SplitNode v at
split_node (ASplit.Pair p) = ChooseNode p

abbrev pub first_step : Split → Move
first_step (ASplit.Var v at) = AMove.Low v at
first_step (ASplit.Pair p) = AMove.VarZero p

abbrev pub second_step : Split → Move
second_step (ASplit.Var v at) = AMove.High v at
second_step (ASplit.Pair p) = AMove.RowZero p
