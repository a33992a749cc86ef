-- What is asked of one node of a refutation.
use Rattle.std.specs.Prelude.{◌≡◌, ℕ, List}
use Rattle.zr_game.specs.Players.{GameOf}
use Rattle.zr_game.specs.declared.choice.Choice.{Choice}
use Rattle.zr_game.specs.declared.kind.Kind.{Kind}
use Rattle.zr_tree.specs.declared.fault.Fault.{Fault}
use Rattle.zr_tree.specs.declared.fault.Fault.TheVariants.{Bad}
use Rattle.zr_cases.specs.Cases.{RNodeOf, OnOffNode, RowNode, WhichNode, CloseNode}
use Rattle.zr_system.specs.Regions.{LeavesOf}
use Rattle.zr_refute.specs.Refuting.{Closes, IsOpenLeaf, IsOpenPlayer, IsOpenSlot}
use Rattle.zr_refute.specs.Steps.{EndPasses, EndRefused, IsWideEnd}

-- the node by itself is right, and no step of its sums is too wide
abbrev pub NodePasses : GameOf → LeavesOf → Kind → List Choice → RNodeOf → Type 0
NodePasses game leaves kind path (OnOffNode i k) = IsOpenLeaf game leaves path i k
NodePasses game leaves kind path (RowNode i k s) = IsOpenSlot game leaves path i k s
NodePasses game leaves kind path (WhichNode i) = IsOpenPlayer game kind path i
NodePasses game leaves kind path (CloseNode mult) =
    EndPasses (Closes game leaves) (IsWideEnd game leaves) path mult

-- the node by itself, which has the number n, is refused
abbrev pub NodeRefused : GameOf → LeavesOf → Kind → ℕ → List Choice → RNodeOf → Fault → Type 0
NodeRefused game leaves kind n path (OnOffNode i k) fault =
    (IsOpenLeaf game leaves path i k → ⊥) × (fault ≡ Bad n)
NodeRefused game leaves kind n path (RowNode i k s) fault =
    (IsOpenSlot game leaves path i k s → ⊥) × (fault ≡ Bad n)
NodeRefused game leaves kind n path (WhichNode i) fault =
    (IsOpenPlayer game kind path i → ⊥) × (fault ≡ Bad n)
NodeRefused game leaves kind n path (CloseNode mult) fault =
    EndRefused (Closes game leaves) (IsWideEnd game leaves) n path mult fault
