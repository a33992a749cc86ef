-- Leaves: a player's bounds and sides on one branch of a tree, and the rows that hold there.
use Rattle.std.specs.Prelude.{◌≡◌, ℕ, suc, ◌==◌, ◌<◌, ℤ, pos, negsuc, neg_ℤ, ◌+ℤ◌, ◌*ℤ◌, ◌<ℤ◌, ◌≤ℤ◌, int_le, true, Option, Some, None, if◌then◌else◌, List, [], ◌∷◌, ◌++◌, map, length, slice_get, slice_index_or}
use Rattle.std.specs.Option.{option_and_then}
use Rattle.zr_base.specs.Sums.{sum_to}
use Rattle.zr_base.specs.Terms.{coef_at}
use Rattle.zr_base.specs.Points.{PointOf, num_of}
use Rattle.zr_base.specs.Rows.{RowOf}
use Rattle.zr_game.specs.Players.{PlayerOf, PairOf, VarOf}
use Rattle.zr_game.specs.declared.leaf.Leaf.{Leaf}
use Rattle.zr_game.specs.declared.leaf.Side.{Side}
use Rattle.zr_game.specs.declared.leaf.Side.TheVariants.{Undecided, VarZero, RowZero}

-- the bounds of each variable, by its number, where it has them, and the side of each pair
pub record LeafOf : Type 0 where
  pub low : ℕ → Option ℤ
  pub high : ℕ → Option ℤ
  pub side : ℕ → Side

abbrev pub leaf_of : Leaf → LeafOf
leaf_of leaf = record {
  low = λ v. slice_index_or leaf.low.items v None;
  high = λ v. slice_index_or leaf.high.items v None;
  side = λ p. slice_index_or leaf.sides.items p Undecided;
}

-- the leaf has a low and a high for each of the player's variables, and a side for each of its
-- pairs
pub record IsLeafOf (player : PlayerOf) (leaf : Leaf) : Type 0 where
  pub lows : length leaf.low.items ≡ length player.vars
  pub highs : length leaf.high.items ≡ length player.vars
  pub sides : length leaf.sides.items ≡ length player.pairs

-- the lower bound of variable v, and its upper bound
abbrev pub low_of : List VarOf → ℕ → Option ℤ
low_of vars v = option_and_then (λ var. var.low) (slice_get vars v)

abbrev pub up_of : List VarOf → ℕ → Option ℤ
up_of vars v = option_and_then (λ var. var.up) (slice_get vars v)

-- the leaf of all points: the variables' bounds, with every side undecided
abbrev pub root_leaf : PlayerOf → LeafOf
root_leaf player = record {
  low = low_of player.vars;
  high = up_of player.vars;
  side = λ p. Undecided;
}

-- the lesser of a bound, if there is one, and a number; and the greater
abbrev pub lesser : Option ℤ → ℤ → ℤ
lesser None b = b
lesser (Some a) b = if int_le a b then a else b

abbrev pub greater : Option ℤ → ℤ → ℤ
greater None b = b
greater (Some a) b = if int_le a b then b else a

-- where variable v is at most `at`
abbrev pub below : LeafOf → ℕ → ℤ → LeafOf
below leaf v at =
    record leaf { high = λ w. if v == w then Some (lesser (leaf.high w) at) else leaf.high w }

-- where variable v is at least `at + 1`
abbrev pub above : LeafOf → ℕ → ℤ → LeafOf
above leaf v at = record leaf {
  low = λ w.
      if v == w then Some (greater (leaf.low w) (at +ℤ pos 1)) else leaf.low w;
}

-- where pair p has this side
abbrev pub decided : LeafOf → ℕ → Side → LeafOf
decided leaf p side = record leaf { side = λ q. if p == q then side else leaf.side q }

-- each whole variable has one value, and no pair is undecided
pub record IsSettled (player : PlayerOf) (leaf : LeafOf) : Type 0 where
  pub vars : (v : ℕ) (var : VarOf) → slice_get player.vars v ≡ Some var → var.whole ≡ true
      → (value : ℤ) × (leaf.low v ≡ Some value) × (leaf.high v ≡ Some value)
  pub pairs : (p : ℕ) → p < length player.pairs → leaf.side p ≡ Undecided → ⊥

-- the row `coef * x <= le`, with a number for each column
pub record Bound : Type 0 where
  pub coef : ℕ → ℤ
  pub le : ℤ

-- the row with these numbers
abbrev pub bound_with : List ℤ → ℤ → Bound
bound_with coef le = record { coef = λ j. slice_index_or coef j (pos 0); le = le }

-- its left side at a point, times the denominator
abbrev pub bound_value : PlayerOf → PointOf → (ℕ → ℤ) → ℤ
bound_value player x coef = sum_to (length player.vars) (λ j. coef j *ℤ num_of x j)

abbrev pub BoundHolds : PlayerOf → PointOf → Bound → Type 0
BoundHolds player x bound = bound_value player x bound.coef ≤ℤ (bound.le *ℤ x.den)

-- the number a at column v, and 0 elsewhere
abbrev pub at_column : ℕ → ℤ → ℕ → ℤ
at_column v a j = if v == j then a else pos 0

-- a row of the player
abbrev pub row_slot : RowOf → Option Bound
row_slot row = Some (record { coef = coef_at row.coef; le = row.le })

-- `-x_v <= -low`, where there is a low bound
abbrev pub low_slot : ℕ → Option ℤ → Option Bound
low_slot v None = None
low_slot v (Some low) = Some (record { coef = at_column v (negsuc 0); le = neg_ℤ low })

-- `x_v <= high`, where there is a high bound
abbrev pub high_slot : ℕ → Option ℤ → Option Bound
high_slot v None = None
high_slot v (Some high) = Some (record { coef = at_column v (pos 1); le = high })

-- `-(terms) <= add`
abbrev pub pair_slot : PairOf → Option Bound
pair_slot pair = Some (record { coef = λ j. neg_ℤ (coef_at pair.coef j); le = pair.add })

-- `x_var <= 0` or `terms <= -add`, where the side is decided
abbrev pub side_slot : PairOf → Side → Option Bound
side_slot pair Undecided = None
side_slot pair VarZero = Some (record { coef = at_column pair.var (pos 1); le = pos 0 })
side_slot pair RowZero = Some (record { coef = coef_at pair.coef; le = neg_ℤ pair.add })

-- the two slots of each variable from number v on
abbrev pub var_slots : LeafOf → ℕ → List VarOf → List (Option Bound)
var_slots leaf v [] = []
var_slots leaf v (var ∷ vars) =
    low_slot v (leaf.low v) ∷ high_slot v (leaf.high v) ∷ var_slots leaf (suc v) vars

-- the two slots of each pair from number p on
abbrev pub pair_slots : LeafOf → ℕ → List PairOf → List (Option Bound)
pair_slots leaf p [] = []
pair_slots leaf p (pair ∷ pairs) =
    pair_slot pair ∷ side_slot pair (leaf.side p) ∷ pair_slots leaf (suc p) pairs

-- the leaf's rows by their fixed numbers, which are called slots: the player's rows, two slots per
-- variable, two per pair. A slot that isn't present is None
abbrev pub slots : PlayerOf → LeafOf → List (Option Bound)
slots player leaf =
    map row_slot player.rows
    ++ (var_slots leaf 0 player.vars ++ pair_slots leaf 0 player.pairs)

-- the row of slot k, if it is present
abbrev pub slot_of : List (Option Bound) → ℕ → Option Bound
slot_of rows k = option_and_then (λ slot. slot) (slice_get rows k)

-- the player has a whole variable v
abbrev pub IsWholeVar : PlayerOf → ℕ → Type 0
IsWholeVar player v = (var : VarOf) × (slice_get player.vars v ≡ Some var) × (var.whole ≡ true)

-- the player has a pair p, which is undecided at the leaf
abbrev pub IsOpenPair : PlayerOf → LeafOf → ℕ → Type 0
IsOpenPair player leaf p = (p < length player.pairs) × (leaf.side p ≡ Undecided)

-- the point meets the row of each slot that is present
pub record MeetsLeaf (player : PlayerOf) (leaf : LeafOf) (x : PointOf) : Type 0 where
  pub point : (pos 0) <ℤ x.den
  pub len : length x.num ≡ length player.vars
  pub rows : (k : ℕ) (row : Bound) → slot_of (slots player leaf) k ≡ Some row
      → BoundHolds player x row

-- some point does
abbrev pub HasPoint : PlayerOf → LeafOf → Type 0
HasPoint player leaf = (x : PointOf) × MeetsLeaf player leaf x
