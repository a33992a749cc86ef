-- The first node of a refutation that is refused.
use Rattle.std.specs.Prelude.{◌≡◌, ℕ, ◌+◌, ◌<◌, ℤ, List, length, slice_index_or, ◌⊎◌}
use Rattle.std.specs.List.{Contains}
use Rattle.zr_base.specs.declared.step.Wide.{Wide}
use Rattle.zr_lin.specs.Combinations.{HasWideStep}
use Rattle.zr_lin.specs.DenseRows.{AreMultipliers}
use Rattle.zr_lin.specs.Ineqs.{row_at}
use Rattle.zr_game.specs.Players.{GameOf}
use Rattle.zr_game.specs.declared.choice.Choice.TheVariants as AChoice
use Rattle.zr_game.specs.declared.choice.Choice.{Choice}
use Rattle.zr_game.specs.declared.kind.Kind.{Kind}
use Rattle.zr_tree.specs.Nodes.{Multipliers}
use Rattle.zr_tree.specs.declared.fault.Fault.{Fault}
use Rattle.zr_tree.specs.declared.fault.Fault.TheVariants.{Bad, Wide as TooWide}
use Rattle.zr_cases.specs.Trees.{CasesOf, OnOff, RowSplit, Which, Close, lists_below, preorder}
use Rattle.zr_system.specs.Asked.{HasWideNumber, no_line}
use Rattle.zr_system.specs.Lines.{all_lines}
use Rattle.zr_system.specs.Regions.{LeavesOf, leaf_count}
use Rattle.zr_system.specs.System.{system_rows}
use Rattle.zr_system.specs.Unknowns.{columns}
use Rattle.zr_refute.specs.Refuting.{Closes, EndRule, IsOpenLeaf, IsOpenPlayer, IsOpenSlot, RefutesBy, leaf_counts, then_choice}

-- a number of one of the multiplied rows is too wide
abbrev pub HasWideRow : GameOf → LeavesOf → List Choice → Multipliers → Type 0
HasWideRow game leaves path mult =
    (t : ℕ × ℤ) × (w : Wide) × Contains mult t
    × HasWideNumber game leaves (columns game leaves)
    (slice_index_or (all_lines game leaves path) t.0 no_line) w

-- or a step of their combination
abbrev pub HasWideSum : GameOf → LeavesOf → List Choice → Multipliers → Type 0
HasWideSum game leaves path mult =
    (w : Wide) × HasWideStep (length (columns game leaves)) (row_at (system_rows game leaves path))
    mult w

-- the sums are made where the rows exist
abbrev pub IsWideEnd : GameOf → LeavesOf → EndRule
IsWideEnd game leaves path mult =
    AreMultipliers (length (system_rows game leaves path)) mult
    × (HasWideRow game leaves path mult ⊎ HasWideSum game leaves path mult)

-- the end keeps the rule, and no step of its sums is too wide
abbrev pub EndPasses : EndRule → EndRule → EndRule
EndPasses right wide path mult = right path mult × (wide path mult → ⊥)

-- the end, which has the number n, is refused: a step that is too wide stands before what is wrong
abbrev pub EndRefused : EndRule → EndRule → ℕ → List Choice → Multipliers → Fault → Type 0
EndRefused right wide n path mult fault =
    (wide path mult × (fault ≡ TooWide n))
    ⊎ ((wide path mult → ⊥) × (right path mult → ⊥) × (fault ≡ Bad n))

-- how many nodes a tree has
abbrev pub size : LeavesOf → CasesOf → ℕ
size leaves t = length (preorder (leaf_counts leaves) t)

-- how many the first k trees have
abbrev pub sizes : LeavesOf → (ℕ → CasesOf) → ℕ → ℕ
sizes leaves trees k = length (lists_below k (λ l. preorder (leaf_counts leaves) (trees l)))

-- n is the number of the root. Where the case may not be made the fault is Bad at n; else the fault
-- is that of the first tree that is refused, those before it passing
abbrev pub RefusedBy : EndRule → EndRule → GameOf → LeavesOf → Kind → ℕ → List Choice → CasesOf
    → Fault → Type 0
RefusedBy right wide game leaves kind n path (OnOff i k on off) fault =
    ((IsOpenLeaf game leaves path i k → ⊥) × (fault ≡ Bad n))
    ⊎ (IsOpenLeaf game leaves path i k
    × RefusedBy right wide game leaves kind (n + 1) (then_choice path (AChoice.On i k)) on fault)
    ⊎ (IsOpenLeaf game leaves path i k
    × RefutesBy (EndPasses right wide) game leaves kind (then_choice path (AChoice.On i k)) on
    × RefusedBy right wide game leaves kind (n + 1 + size leaves on)
    (then_choice path (AChoice.Off i k)) off fault)
RefusedBy right wide game leaves kind n path (RowSplit i k s at_zero at_tight) fault =
    ((IsOpenSlot game leaves path i k s → ⊥) × (fault ≡ Bad n))
    ⊎ (IsOpenSlot game leaves path i k s
    × RefusedBy right wide game leaves kind (n + 1) (then_choice path (AChoice.Zero i k s)) at_zero
    fault)
    ⊎ (IsOpenSlot game leaves path i k s
    × RefutesBy (EndPasses right wide) game leaves kind (then_choice path (AChoice.Zero i k s)) at_zero
    × RefusedBy right wide game leaves kind (n + 1 + size leaves at_zero)
    (then_choice path (AChoice.Tight i k s)) at_tight fault)
RefusedBy right wide game leaves kind n path (Which i trees) fault =
    ((IsOpenPlayer game kind path i → ⊥) × (fault ≡ Bad n))
    ⊎ (IsOpenPlayer game kind path i × ((k : ℕ) × (k < leaf_count leaves i)
    × ((l : ℕ) → l < k → RefutesBy (EndPasses right wide) game leaves kind
    (then_choice path (AChoice.Which i l)) (trees l))
    × RefusedBy right wide game leaves kind (n + 1 + sizes leaves trees k)
    (then_choice path (AChoice.Which i k)) (trees k) fault))
RefusedBy right wide game leaves kind n path (Close mult) fault =
    EndRefused right wide n path mult fault

-- a step is too wide at some end to which cases that may be made lead
abbrev pub HasWideBy : EndRule → GameOf → LeavesOf → Kind → List Choice → CasesOf → Type 0
HasWideBy wide game leaves kind path (OnOff i k on off) =
    IsOpenLeaf game leaves path i k
    × (HasWideBy wide game leaves kind (then_choice path (AChoice.On i k)) on
    ⊎ HasWideBy wide game leaves kind (then_choice path (AChoice.Off i k)) off)
HasWideBy wide game leaves kind path (RowSplit i k s at_zero at_tight) =
    IsOpenSlot game leaves path i k s
    × (HasWideBy wide game leaves kind (then_choice path (AChoice.Zero i k s)) at_zero
    ⊎ HasWideBy wide game leaves kind (then_choice path (AChoice.Tight i k s)) at_tight)
HasWideBy wide game leaves kind path (Which i trees) =
    IsOpenPlayer game kind path i
    × ((k : ℕ) × (k < leaf_count leaves i)
    × HasWideBy wide game leaves kind (then_choice path (AChoice.Which i k)) (trees k))
HasWideBy wide game leaves kind path (Close mult) = wide path mult

-- the tree refutes under the path, and no step of its sums is too wide
abbrev pub Passes : GameOf → LeavesOf → Kind → List Choice → CasesOf → Type 0
Passes game leaves kind path t =
    RefutesBy (EndPasses (Closes game leaves) (IsWideEnd game leaves)) game leaves kind path t

-- the tree is refused with this fault; n is the number of its root
abbrev pub IsRefused : GameOf → LeavesOf → Kind → ℕ → List Choice → CasesOf → Fault → Type 0
IsRefused game leaves kind n path t fault =
    RefusedBy (Closes game leaves) (IsWideEnd game leaves) game leaves kind n path t fault

-- a step of the tree's sums is too wide
abbrev pub HasWideCase : GameOf → LeavesOf → Kind → List Choice → CasesOf → Type 0
HasWideCase game leaves kind path t = HasWideBy (IsWideEnd game leaves) game leaves kind path t
