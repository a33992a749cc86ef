-- The steps by which a cover is checked, each of which may be too wide.
use Rattle.std.specs.Prelude.{◌≡◌, ℕ, zero, suc, ℤ, pos, Bool, int_le, Option, Some, None, List, [], ◌∷◌, length, IsSome, Result, Ok}
use Rattle.zr_base.specs.declared.step.Wide.{Wide}
use Rattle.zr_base.specs.Steps.{cross_of, ◌>>=◌}
use Rattle.zr_base.specs.Sums.{sum_steps}
use Rattle.zr_base.specs.Tests.{first_wide, wide_in}
use Rattle.zr_base.specs.Points.{PointOf, num_of}
use Rattle.zr_game.specs.Players.{PlayerOf}
use Rattle.zr_game.specs.Leaves.{Bound, BoundHolds, LeafOf, slots}
use Rattle.zr_tree.specs.declared.fault.Fault.{Fault}
use Rattle.zr_tree.specs.Combining.{HasWideStep}
use Rattle.zr_tree.specs.Covers.{KeepsCover}
use Rattle.zr_tree.specs.Nodes.{SplitNode, ChooseNode, ProofNode, KnownNode, LooseNode}
use Rattle.zr_tree.specs.Right.{ArePresent, EndRule, IsRightBy}
use Rattle.zr_tree.specs.Steps.{EndPasses, HasWideEnd, IsRefusedBy}
use Rattle.zr_tree.specs.Trees.{TreeOf}

-- of each of n columns from `low` on: the row's number with the point's
abbrev pub column_products : ℕ → ℕ → (ℕ → ℤ) → (ℕ → ℤ) → List (ℤ × ℤ)
column_products low zero coef p = []
column_products low (suc n) coef p = (coef low, p low) ∷ column_products (suc low) n coef p

-- whether the row holds at the point, by the steps of its left side from the left and then of its
-- right side
abbrev pub bound_holds_of : ℕ → PointOf → Bound → Result Bool Wide
bound_holds_of columns x row = do
  left ← sum_steps (pos 0) (column_products 0 columns row.coef (num_of x))
  right ← cross_of (row.le, x.den) (pos 0, pos 0)
  Ok (int_le left right)

-- the slot's row holds at the point, where it is present
abbrev pub SlotMet : PlayerOf → PointOf → Option Bound → Type 0
SlotMet player x None = Unit {0}
SlotMet player x (Some row) = BoundHolds player x row

-- the steps of a slot, which has none where it isn't present
abbrev pub slot_wide : ℕ → PointOf → Option Bound → Option Wide
slot_wide columns x None = None
slot_wide columns x (Some row) = wide_in (bound_holds_of columns x row)

-- the first step of the leaf's rows at the point, slot by slot, that is too wide
abbrev pub known_wide : PlayerOf → LeafOf → PointOf → Option Wide
known_wide player leaf x = first_wide (slot_wide (length player.vars) x) (slots player leaf)

-- a step of the end's sums is too wide: of a refutation, where the slots are present; of the
-- leaf's rows at a known point, where that has a number for each variable
abbrev pub IsWideForCover : PlayerOf → EndRule
IsWideForCover player leaf (SplitNode v at) = ⊥
IsWideForCover player leaf (ChooseNode p) = ⊥
IsWideForCover player leaf (ProofNode scale mult) =
    ArePresent (slots player leaf) mult
    × HasWideStep (length player.vars) (slots player leaf) mult
IsWideForCover player leaf (KnownNode x) =
    (length x.num ≡ length player.vars) × IsSome (known_wide player leaf x)
IsWideForCover player leaf LooseNode = ⊥

-- the tree is a cover, and no step of its sums is too wide
abbrev pub CoverPasses : PlayerOf → LeafOf → TreeOf → Type 0
CoverPasses player leaf tree =
    IsRightBy (EndPasses (KeepsCover player) (IsWideForCover player)) player leaf tree

-- the tree is refused as a cover, with this fault; k is the number of its root
abbrev pub IsRefusedCover : PlayerOf → ℕ → LeafOf → TreeOf → Fault → Type 0
IsRefusedCover player k leaf tree fault =
    IsRefusedBy (KeepsCover player) (IsWideForCover player) player k leaf tree fault

-- a step at some end of the cover is too wide
abbrev pub IsWideCover : PlayerOf → LeafOf → TreeOf → Type 0
IsWideCover player leaf tree = HasWideEnd (IsWideForCover player) player leaf tree
