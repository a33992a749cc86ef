-- Paths of choices: what they decide, when they are complete, and what solves the system under
-- them.
use Rattle.std.specs.Prelude.{◌≡◌, ℕ, ◌<◌, ℤ, true, IsTrue, List, map, length, ◌⊎◌}
use Rattle.std.specs.List.{All, Contains}
use Rattle.zr_game.specs.Players.{GameOf}
use Rattle.zr_game.specs.declared.choice.Choice.{Choice}
use Rattle.zr_game.specs.declared.choice.Choice.TheVariants.{On, Off, Zero, Tight, Which}
use Rattle.zr_game.specs.declared.kind.Kind.{Kind}
use Rattle.zr_game.specs.declared.kind.Kind.TheVariants.{Pure, Mixed}
use Rattle.zr_system.specs.declared.unknown.Unknown.{Unknown}
use Rattle.zr_system.specs.Asked.{ChoiceExists}
use Rattle.zr_system.specs.Forms.{FormRow, SolvesForms}
use Rattle.zr_system.specs.Lines.{all_lines, row_of_line}
use Rattle.zr_system.specs.Regions.{LeavesOf, is_exact, is_present, leaf_count, slot_count}

-- on the path the slot's multiplier is 0, or its row is tight
abbrev pub IsSlotDecided : List Choice → ℕ → ℕ → ℕ → Type 0
IsSlotDecided path i k s = Contains path (Zero i k s) ⊎ Contains path (Tight i k s)

-- on the path the leaf is On, or chosen
abbrev pub IsUsed : List Choice → ℕ → ℕ → Type 0
IsUsed path i k = Contains path (On i k) ⊎ Contains path (Which i k)

-- on the path the leaf is On or Off, or a leaf of its player is chosen
abbrev pub IsLeafDecided : List Choice → ℕ → ℕ → Type 0
IsLeafDecided path i k =
    Contains path (On i k) ⊎ (Contains path (Off i k) ⊎ ((l : ℕ) × Contains path (Which i l)))

-- if the leaf is exact, each of its present slots is decided
abbrev pub AreSlotsDecided : GameOf → LeavesOf → List Choice → ℕ → ℕ → Type 0
AreSlotsDecided game leaves path i k =
    is_exact leaves i k ≡ true → (s : ℕ) → s < slot_count game leaves i k
    → IsTrue (is_present game leaves i k s) → IsSlotDecided path i k s

-- the leaf is Off, or it is On and its slots are decided
abbrev pub IsLeafComplete : GameOf → LeavesOf → List Choice → ℕ → ℕ → Type 0
IsLeafComplete game leaves path i k =
    Contains path (Off i k)
    ⊎ (Contains path (On i k) × AreSlotsDecided game leaves path i k)

-- one leaf of the player is chosen, and its slots are decided
abbrev pub IsPlayerComplete : GameOf → LeavesOf → List Choice → ℕ → Type 0
IsPlayerComplete game leaves path i =
    (k : ℕ) × (k < leaf_count leaves i)
    × Contains path (Which i k)
    × AreSlotsDecided game leaves path i k

-- for the mixed kind each leaf is complete, for the pure kind each player
abbrev pub IsComplete : GameOf → LeavesOf → Kind → List Choice → Type 0
IsComplete game leaves Mixed path =
    (i k : ℕ) → i < length game → k < leaf_count leaves i → IsLeafComplete game leaves path i k
IsComplete game leaves Pure path =
    (i : ℕ) → i < length game → IsPlayerComplete game leaves path i

-- the rows of the system under a path of choices
abbrev pub rows_under : GameOf → LeavesOf → List Choice → List FormRow
rows_under game leaves path = map (row_of_line game leaves) (all_lines game leaves path)

-- the fractions `x u / x One` solve the system under a complete list of choices, each of which
-- exists
pub record SolvesComplete (game : GameOf) (leaves : LeavesOf) (kind : Kind) (path : List Choice)
    (x : Unknown → ℤ) : Type 0 where
  pub exist : All (ChoiceExists game leaves) path
  pub complete : IsComplete game leaves kind path
  pub solves : SolvesForms (rows_under game leaves path) x

-- some fractions solve the system under some complete list of choices
abbrev pub HasCompleteSolution : GameOf → LeavesOf → Kind → Type 0
HasCompleteSolution game leaves kind =
    (path : List Choice) × (x : Unknown → ℤ) × SolvesComplete game leaves kind path x
