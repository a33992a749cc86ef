-- Splits of a leaf, and the numbers at which variables are split.
use Rattle.std.specs.Prelude.{◌≡◌, ℕ, ◌+◌, ℤ, pos, neg_ℤ, ◌+ℤ◌, ◌≤ℤ◌, ◌⊎◌, IsTrue, Some, slice_get}
use Rattle.zr_base.specs.Points.{PointOf, num_of}
use Rattle.zr_game.specs.Players.{PairOf, PlayerOf, VarOf}
use Rattle.zr_game.specs.Feasible.{IsMultiple}
use Rattle.zr_game.specs.Leaves.{IsOpenPair, LeafOf}
use Rattle.zr_game.specs.Rays.{Direction, change_of}
use Rattle.zr_game.specs.declared.leaf.Side.TheVariants.{Undecided}
use Rattle.zr_asked.specs.declared.question.Move.{Move}
use Rattle.zr_asked.specs.declared.question.Move.TheVariants as AMove
use Rattle.zr_asked.specs.Paths.{IsSplit}
use Rattle.zr_bnb.specs.declared.split.Split.{Split}
use Rattle.zr_bnb.specs.declared.split.Split.TheVariants as ASplit

-- the greatest value up to which a variable is split at the value rounded down: 2^61
abbrev pub split_limit : ℤ
split_limit = pos 2305843009213693952

-- no further from 0 than the limit and so much more
abbrev pub IsNear : ℕ → ℤ → Type 0
IsNear more z =
    (neg_ℤ (split_limit +ℤ pos more) ≤ℤ z) × (z ≤ℤ (split_limit +ℤ pos more))

-- the leaf's bounds are
abbrev pub AreNear : LeafOf → ℕ → Type 0
AreNear leaf more =
    (v : ℕ) (bound : ℤ) → (leaf.low v ≡ Some bound) ⊎ (leaf.high v ≡ Some bound)
    → IsNear more bound

-- a split of a whole variable at a number that is near, or a choice of an undecided pair
abbrev pub IsDivision : PlayerOf → LeafOf → ℕ → Split → Type 0
IsDivision player leaf more (ASplit.Var v at) =
    IsSplit player leaf v at × (neg_ℤ (split_limit +ℤ pos (more + 1)) ≤ℤ at)
    × (at ≤ℤ (split_limit +ℤ pos more))
IsDivision player leaf more (ASplit.Pair p) = IsOpenPair player leaf p

-- each whole variable is whole at the point
abbrev pub IsWholePoint : PlayerOf → PointOf → Type 0
IsWholePoint player x =
    (v : ℕ) (var : VarOf) → slice_get player.vars v ≡ Some var → IsTrue var.whole
    → IsMultiple (num_of x v) x.den

-- the variable of each pair that is undecided is 0 at the point and along the direction
abbrev pub IsStill : PlayerOf → LeafOf → PointOf → Direction → Type 0
IsStill player leaf x dir =
    (p : ℕ) (pair : PairOf) → slice_get player.pairs p ≡ Some pair → leaf.side p ≡ Undecided
    → (num_of x pair.var ≡ pos 0) × (change_of dir pair.var ≡ pos 0)

-- the moves to the two children of a split
abbrev pub first_side : Split → Move
first_side (ASplit.Var v at) = AMove.Low v at
first_side (ASplit.Pair p) = AMove.VarZero p

abbrev pub second_side : Split → Move
second_side (ASplit.Var v at) = AMove.High v at
second_side (ASplit.Pair p) = AMove.RowZero p
