-- The cases that a search makes, and the paths that it goes on to.
use Rattle.std.specs.Prelude.{◌≡◌, ℕ, ◌<◌, Vec, List, [], ◌∷◌, length, ◌⊎◌}
use Rattle.std.specs.List.{All, Contains}
use Rattle.std.specs.declared.alloc.Global.{Global}
use Rattle.zr_game.specs.Players.{GameOf}
use Rattle.zr_game.specs.declared.choice.Choice.{Choice}
use Rattle.zr_game.specs.declared.choice.Choice.TheVariants.{On, Off, Which}
use Rattle.zr_game.specs.declared.kind.Kind.{Kind}
use Rattle.zr_game.specs.declared.kind.Kind.TheVariants.{Pure, Mixed}
use Rattle.zr_cases.specs.Cases.{RNodeOf, OnOffNode, RowNode, WhichNode}
use Rattle.zr_system.specs.Regions.{LeavesOf, leaf_count, slot_count}
use Rattle.zr_system.specs.Asked.{ChoiceExists, LeafExists}
use Rattle.zr_refute.specs.Refuting.{IsOpenLeaf, IsOpenPlayer, IsOpenSlot, then_choice}
use Rattle.zr_comp.specs.declared.case.Case.{Case}
use Rattle.zr_comp.specs.declared.case.Case.TheVariants as ACase
use Rattle.zr_comp.specs.OpenCases.{which_units}
use Rattle.zr_comp.specs.OpenPaths.{AreOnce, IsOpenChoicePath, MayChoose, SuitsKind}

-- each leaf has fewer than 2^31 slots
abbrev pub AreFewSlots : GameOf → LeavesOf → Type 0
AreFewSlots game leaves =
    (i k : ℕ) → LeafExists game leaves i k → slot_count game leaves i k < 2147483648

-- a choice that suits the kind
abbrev pub SuitsOne : Kind → Choice → Type 0
SuitsOne Mixed c = (i k : ℕ) → c ≡ Which i k → ⊥
SuitsOne Pure c = (i k : ℕ) → (c ≡ On i k) ⊎ (c ≡ Off i k) → ⊥

-- after the path each of these choices may be made on those before it
abbrev pub AreMade : GameOf → LeavesOf → Kind → List Choice → List Choice → Type 0
AreMade game leaves kind path [] = Unit {0}
AreMade game leaves kind path (c ∷ cs) =
    MayChoose game leaves kind path c × AreMade game leaves kind (then_choice path c) cs

-- choices that exist and suit the kind, each once and made one after the other
pub record IsChoiceList (game : GameOf) (leaves : LeavesOf) (kind : Kind)
    (path : List Choice) : Type 0 where
  pub exist : All (ChoiceExists game leaves) path
  pub suits : SuitsKind kind path
  pub once : AreOnce path
  pub made : AreMade game leaves kind [] path

-- the path is one that a search of this kind goes on to
pub record IsDuePath (game : GameOf) (leaves : LeavesOf) (kind : Kind)
    (path : List Choice) : Type 0 where
  pub open_is : IsOpenChoicePath game leaves kind path
  pub suits : SuitsKind kind path

-- the paths that are due, the next one first
abbrev pub due_paths_on : List (List Choice) → List (Vec Choice Global) → List (List Choice)
due_paths_on done [] = done
due_paths_on done (path ∷ paths) = due_paths_on (path.items ∷ done) paths

abbrev pub due_paths : List (Vec Choice Global) → List (List Choice)
due_paths paths = due_paths_on [] paths

-- the case may be made on the path
abbrev pub IsCase : GameOf → LeavesOf → Kind → List Choice → Case → Type 0
IsCase game leaves kind path (ACase.Leaf i k) = (kind ≡ Mixed) × IsOpenLeaf game leaves path i k
IsCase game leaves kind path (ACase.Slot i k s) = IsOpenSlot game leaves path i k s
IsCase game leaves kind path (ACase.Player i) = IsOpenPlayer game kind path i

-- the player that the case is of exists
abbrev pub PlayerExists : GameOf → Case → Type 0
PlayerExists game (ACase.Leaf i k) = i < length game
PlayerExists game (ACase.Slot i k s) = i < length game
PlayerExists game (ACase.Player i) = i < length game

abbrev pub case_node : Case → RNodeOf
case_node (ACase.Leaf i k) = OnOffNode i k
case_node (ACase.Slot i k s) = RowNode i k s
case_node (ACase.Player i) = WhichNode i

-- the units that the case costs
abbrev pub case_price : LeavesOf → Case → ℕ
case_price leaves (ACase.Leaf i k) = 1
case_price leaves (ACase.Slot i k s) = 1
case_price leaves (ACase.Player i) = which_units (leaf_count leaves i)

-- the leaf is On or Off on the path
abbrev pub HasSide : List Choice → ℕ → ℕ → Type 0
HasSide path i k = Contains path (Off i k) ⊎ Contains path (On i k)

-- a leaf of the player is chosen on the path
abbrev pub HasChosen : LeavesOf → List Choice → ℕ → Type 0
HasChosen leaves path i = (k : ℕ) × (k < leaf_count leaves i) × Contains path (Which i k)
