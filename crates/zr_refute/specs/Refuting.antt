-- When a tree of choices refutes the system, by cases.
use Rattle.std.specs.Prelude.{◌≡◌, ℕ, ◌<◌, List, [], ◌∷◌, ◌++◌, length, map}
use Rattle.zr_lin.specs.DenseRows.{AreMultipliers, Refutes}
use Rattle.zr_lin.specs.Ineqs.{row_at}
use Rattle.zr_game.specs.Players.{GameOf}
use Rattle.zr_game.specs.declared.choice.Choice.{Choice}
use Rattle.zr_game.specs.declared.choice.Choice.TheVariants as AChoice
use Rattle.zr_game.specs.declared.kind.Kind.{Kind}
use Rattle.zr_game.specs.declared.kind.Kind.TheVariants.{Pure}
use Rattle.zr_tree.specs.Nodes.{Multipliers}
use Rattle.zr_cases.specs.Trees.{CasesOf, OnOff, RowSplit, Which, Close}
use Rattle.zr_system.specs.Asked.{LeafExists, SlotExists}
use Rattle.zr_system.specs.Choices.{IsLeafDecided, IsSlotDecided, IsUsed}
use Rattle.zr_system.specs.Regions.{LeavesOf, leaf_count}
use Rattle.zr_system.specs.System.{system_rows}
use Rattle.zr_system.specs.Unknowns.{columns}

-- how many leaves each player has
abbrev pub leaf_counts : LeavesOf → List ℕ
leaf_counts leaves = map (λ list. length list) leaves.regions

-- the path with one choice more
abbrev pub then_choice : List Choice → Choice → List Choice
then_choice path c = path ++ (c ∷ [])

-- the leaf exists, and isn't decided on the path
abbrev pub IsOpenLeaf : GameOf → LeavesOf → List Choice → ℕ → ℕ → Type 0
IsOpenLeaf game leaves path i k = LeafExists game leaves i k × (IsLeafDecided path i k → ⊥)

-- the slot is present in an exact leaf that is On or chosen, and isn't decided on the path
abbrev pub IsOpenSlot : GameOf → LeavesOf → List Choice → ℕ → ℕ → ℕ → Type 0
IsOpenSlot game leaves path i k s =
    SlotExists game leaves i k s × IsUsed path i k × (IsSlotDecided path i k s → ⊥)

-- the kind is pure, the player exists, and none of its leaves is decided on the path
abbrev pub IsOpenPlayer : GameOf → Kind → List Choice → ℕ → Type 0
IsOpenPlayer game kind path i =
    (kind ≡ Pure) × (i < length game) × ((k : ℕ) → IsLeafDecided path i k → ⊥)

-- what is asked of the multipliers at the end of a path
abbrev pub EndRule : Type 1
EndRule = List Choice → Multipliers → Type 0

-- each case is one that may be made, there is a tree for each of its choices, and each end keeps
-- the rule
abbrev pub RefutesBy : EndRule → GameOf → LeavesOf → Kind → List Choice → CasesOf → Type 0
RefutesBy rule game leaves kind path (OnOff i k on off) =
    IsOpenLeaf game leaves path i k
    × RefutesBy rule game leaves kind (then_choice path (AChoice.On i k)) on
    × RefutesBy rule game leaves kind (then_choice path (AChoice.Off i k)) off
RefutesBy rule game leaves kind path (RowSplit i k s at_zero at_tight) =
    IsOpenSlot game leaves path i k s
    × RefutesBy rule game leaves kind (then_choice path (AChoice.Zero i k s)) at_zero
    × RefutesBy rule game leaves kind (then_choice path (AChoice.Tight i k s)) at_tight
RefutesBy rule game leaves kind path (Which i trees) =
    IsOpenPlayer game kind path i
    × ((k : ℕ) → k < leaf_count leaves i
    → RefutesBy rule game leaves kind (then_choice path (AChoice.Which i k)) (trees k))
RefutesBy rule game leaves kind path (Close mult) = rule path mult

-- the multiplied rows exist under the path, and their combination is a contradiction
abbrev pub Closes : GameOf → LeavesOf → EndRule
Closes game leaves path mult =
    AreMultipliers (length (system_rows game leaves path)) mult
    × Refutes (length (columns game leaves)) (row_at (system_rows game leaves path)) mult

-- the tree refutes the system under the path
abbrev pub RefutesUnder : GameOf → LeavesOf → Kind → List Choice → CasesOf → Type 0
RefutesUnder game leaves kind path t = RefutesBy (Closes game leaves) game leaves kind path t
