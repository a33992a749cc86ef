-- Open trees of cases: the work that a search over choices may do.
use Rattle.std.specs.Prelude.{ℕ, zero, suc, ◌+◌, ◌<◌, List, []}
use Rattle.zr_lin.specs.Ineqs.{HasSolution}
use Rattle.zr_game.specs.Players.{GameOf}
use Rattle.zr_game.specs.declared.choice.Choice.{Choice}
use Rattle.zr_game.specs.declared.choice.Choice.TheVariants as AChoice
use Rattle.zr_game.specs.declared.kind.Kind.{Kind}
use Rattle.zr_cases.specs.Trees.{CasesOf, OnOff, RowSplit, Which, Close}
use Rattle.zr_system.specs.Regions.{LeavesOf, leaf_count}
use Rattle.zr_system.specs.System.{system_rows}
use Rattle.zr_refute.specs.Refuting.{EndRule, IsOpenLeaf, IsOpenPlayer, IsOpenSlot, then_choice}

-- at each inner node the rows under the path have a solution, and the case is one that may be
-- made: it is of what isn't decided there; each end keeps the rule
abbrev pub IsOpenBy : EndRule → GameOf → LeavesOf → Kind → List Choice → CasesOf → Type 0
IsOpenBy rule game leaves kind path (OnOff i k on off) =
    HasSolution (system_rows game leaves path) × IsOpenLeaf game leaves path i k
    × IsOpenBy rule game leaves kind (then_choice path (AChoice.On i k)) on
    × IsOpenBy rule game leaves kind (then_choice path (AChoice.Off i k)) off
IsOpenBy rule game leaves kind path (RowSplit i k s at_zero at_tight) =
    HasSolution (system_rows game leaves path) × IsOpenSlot game leaves path i k s
    × IsOpenBy rule game leaves kind (then_choice path (AChoice.Zero i k s)) at_zero
    × IsOpenBy rule game leaves kind (then_choice path (AChoice.Tight i k s)) at_tight
IsOpenBy rule game leaves kind path (Which i trees) =
    HasSolution (system_rows game leaves path) × IsOpenPlayer game kind path i
    × ((k : ℕ) → k < leaf_count leaves i
    → IsOpenBy rule game leaves kind (then_choice path (AChoice.Which i k)) (trees k))
IsOpenBy rule game leaves kind path (Close mult) = rule path mult

-- the tree is open; nothing is asked of its ends
abbrev pub IsOpenCases : GameOf → LeavesOf → Kind → List Choice → CasesOf → Type 0
IsOpenCases game leaves kind path t = IsOpenBy (λ end mult. Unit {0}) game leaves kind path t

-- the units of a choice among so many leaves: one less, and 1 for one leaf
abbrev pub which_units : ℕ → ℕ
which_units zero = 0
which_units (suc zero) = 1
which_units (suc (suc n)) = suc n

-- f 0 + .. + f (n - 1)
abbrev pub total_below : ℕ → (ℕ → ℕ) → ℕ
total_below zero f = 0
total_below (suc n) f = f 0 + total_below n (λ k. f (suc k))

-- the units of work: 1 for a case of a leaf or of a slot
abbrev pub case_units : LeavesOf → CasesOf → ℕ
case_units leaves (OnOff i k on off) = 1 + case_units leaves on + case_units leaves off
case_units leaves (RowSplit i k s at_zero at_tight) =
    1 + case_units leaves at_zero + case_units leaves at_tight
case_units leaves (Which i trees) =
    which_units (leaf_count leaves i)
    + total_below (leaf_count leaves i) (λ k. case_units leaves (trees k))
case_units leaves (Close mult) = 0

-- an open tree under no choice
pub record CaseWork (game : GameOf) (leaves : LeavesOf) (kind : Kind) : Type 0 where
  pub tree : CasesOf
  pub open_is : IsOpenCases game leaves kind [] tree
