-- Where a walk through a refutation stands: the choices made, and the paths that are due.
use Rattle.std.specs.Prelude.{◌≡◌, ℕ, zero, suc, ◌-◌, ◌≤◌, List, [], ◌∷◌, ◌++◌, length, slice_index_or, take, ◌⊎◌}
use Rattle.std.specs.List.{All}
use Rattle.zr_game.specs.Players.{GameOf}
use Rattle.zr_game.specs.declared.choice.Choice.{Choice}
use Rattle.zr_game.specs.declared.choice.Choice.TheVariants.{On, Off, Zero, Tight, Which}
use Rattle.zr_cases.specs.Cases.{RNodeOf, OnOffNode, RowNode, WhichNode, CloseNode}
use Rattle.zr_system.specs.Asked.{ChoiceExists}
use Rattle.zr_system.specs.Regions.{LeavesOf, leaf_count}
use Rattle.zr_refute.specs.declared.path.CasePath.{CasePath}
use Rattle.zr_refute.specs.Refuting.{then_choice}

-- the paths on which leaf k, or one of the n - 1 leaves after it, is chosen
abbrev pub whiches : List Choice → ℕ → ℕ → ℕ → List (List Choice)
whiches path i k zero = []
whiches path i k (suc n) = then_choice path (Which i k) ∷ whiches path i (suc k) n

-- the paths of the choices after this one at the same node
abbrev pub later : LeavesOf → List Choice → Choice → List (List Choice)
later leaves path (On i k) = then_choice path (Off i k) ∷ []
later leaves path (Off i k) = []
later leaves path (Zero i k s) = then_choice path (Tight i k s) ∷ []
later leaves path (Tight i k s) = []
later leaves path (Which i k) = whiches path i (suc k) (leaf_count leaves i - suc k)

-- the paths that are still due after the first n choices, the nearest first
abbrev pub due_after : LeavesOf → List Choice → ℕ → List (List Choice)
due_after leaves choices zero = []
due_after leaves choices (suc n) =
    later leaves (take n choices) (slice_index_or choices n (On 0 0))
    ++ due_after leaves choices n

-- the choices made
abbrev pub path_of : CasePath → List Choice
path_of path = take path.depth path.choices.items

abbrev pub due_of : LeavesOf → CasePath → List (List Choice)
due_of leaves path = due_after leaves path.choices.items path.depth

-- these paths are left, and the first of them is the current one; or none is left
abbrev pub IsAt : LeavesOf → CasePath → List (List Choice) → Type 0
IsAt leaves path paths = (paths ≡ []) ⊎ (paths ≡ path_of path ∷ due_of leaves path)

-- the choices made exist, and there are places for them
pub record IsPathOf (game : GameOf) (leaves : LeavesOf) (path : CasePath) : Type 0 where
  pub exist : All (ChoiceExists game leaves) (path_of path)
  pub depth : path.depth ≤ length path.choices.items

-- the paths of a node's choices
abbrev pub children : LeavesOf → List Choice → RNodeOf → List (List Choice)
children leaves path (OnOffNode i k) =
    then_choice path (On i k) ∷ then_choice path (Off i k) ∷ []
children leaves path (RowNode i k s) =
    then_choice path (Zero i k s) ∷ then_choice path (Tight i k s) ∷ []
children leaves path (WhichNode i) = whiches path i 0 (leaf_count leaves i)
children leaves path (CloseNode mult) = []

-- the walk went on from a node to its choices, or, where it has none, to the next path that is due
pub record Entered (game : GameOf) (leaves : LeavesOf) (paths : List (List Choice))
    (old new : CasePath) : Type 0 where
  pub due : IsAt leaves new (paths ++ due_of leaves old)
  pub path : IsPathOf game leaves new
  pub size : length new.choices.items ≡ length old.choices.items
  pub depth : new.depth ≤ suc old.depth
