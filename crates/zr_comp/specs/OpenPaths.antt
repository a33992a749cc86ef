-- Paths of choices that lead to nodes of open trees.
use Rattle.std.specs.Prelude.{ℕ, ◌<◌, List, [], ◌∷◌, ◌⊎◌}
use Rattle.std.specs.List.{Contains}
use Rattle.zr_lin.specs.Ineqs.{HasSolution}
use Rattle.zr_game.specs.Players.{GameOf}
use Rattle.zr_game.specs.declared.choice.Choice.{Choice}
use Rattle.zr_game.specs.declared.choice.Choice.TheVariants as AChoice
use Rattle.zr_game.specs.declared.kind.Kind.{Kind}
use Rattle.zr_game.specs.declared.kind.Kind.TheVariants.{Pure, Mixed}
use Rattle.zr_system.specs.Regions.{LeavesOf, leaf_count}
use Rattle.zr_system.specs.System.{system_rows}
use Rattle.zr_refute.specs.Refuting.{IsOpenLeaf, IsOpenPlayer, IsOpenSlot, then_choice}

-- the choice is one of a case that may be made on the path
abbrev pub MayChoose : GameOf → LeavesOf → Kind → List Choice → Choice → Type 0
MayChoose game leaves kind path (AChoice.On i k) = IsOpenLeaf game leaves path i k
MayChoose game leaves kind path (AChoice.Off i k) = IsOpenLeaf game leaves path i k
MayChoose game leaves kind path (AChoice.Zero i k s) = IsOpenSlot game leaves path i k s
MayChoose game leaves kind path (AChoice.Tight i k s) = IsOpenSlot game leaves path i k s
MayChoose game leaves kind path (AChoice.Which i k) =
    IsOpenPlayer game kind path i × (k < leaf_count leaves i)

-- after these choices each further one is made where the rows so far have a solution
abbrev pub AreOpenChoices : GameOf → LeavesOf → Kind → List Choice → List Choice → Type 0
AreOpenChoices game leaves kind path [] = Unit {0}
AreOpenChoices game leaves kind path (c ∷ cs) =
    HasSolution (system_rows game leaves path) × MayChoose game leaves kind path c
    × AreOpenChoices game leaves kind (then_choice path c) cs

-- the path leads to a node of an open tree
abbrev pub IsOpenChoicePath : GameOf → LeavesOf → Kind → List Choice → Type 0
IsOpenChoicePath game leaves kind path = AreOpenChoices game leaves kind [] path

-- leaves are On or Off for the mixed kind alone, and chosen for the pure kind alone
abbrev pub SuitsKind : Kind → List Choice → Type 0
SuitsKind Mixed path = (i k : ℕ) → Contains path (AChoice.Which i k) → ⊥
SuitsKind Pure path =
    (i k : ℕ) → Contains path (AChoice.On i k) ⊎ Contains path (AChoice.Off i k) → ⊥

-- no choice is there twice
abbrev pub AreOnce : List Choice → Type 0
AreOnce [] = Unit {0}
AreOnce (c ∷ cs) = (Contains cs c → ⊥) × AreOnce cs
