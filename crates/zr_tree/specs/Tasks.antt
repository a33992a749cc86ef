-- What is asked of a tree.
use Rattle.std.specs.Prelude.{◌≡◌, ℕ, Bool, Result, length}
use Rattle.zr_base.specs.declared.step.Wide.{Wide}
use Rattle.zr_game.specs.Players.{PlayerOf}
use Rattle.zr_game.specs.Leaves.{LeafOf, bound_with}
use Rattle.zr_tree.specs.declared.fault.Fault.{Fault}
use Rattle.zr_tree.specs.declared.task.Task.{Task}
use Rattle.zr_tree.specs.declared.task.Task.TheVariants.{Row, Cover}
use Rattle.zr_tree.specs.Nodes.{NodeOf}
use Rattle.zr_tree.specs.Covers.{KeepsCover}
use Rattle.zr_tree.specs.CoverSteps.{IsWideForCover}
use Rattle.zr_tree.specs.Right.{EndRule, IsRightBy, ProvesRow}
use Rattle.zr_tree.specs.Steps.{EndPasses, IsRefusedBy, IsWideForRow}
use Rattle.zr_tree.specs.Trees.{TreeOf}
use Rattle.zr_tree.specs.Visits.{EndTells, NodePasses, NodeRefused}

-- what an end has to keep
abbrev pub end_rule : Task → PlayerOf → EndRule
end_rule (Row coef le) player = ProvesRow player (bound_with coef.now le)
end_rule Cover player = KeepsCover player

-- which of its steps may be too wide
abbrev pub end_wide : Task → PlayerOf → EndRule
end_wide (Row coef le) player = IsWideForRow player (bound_with coef.now le)
end_wide Cover player = IsWideForCover player

-- a row has a number for each of the columns
abbrev pub FitsColumns : ℕ → Task → Type 0
FitsColumns columns (Row coef le) = length coef.now ≡ columns
FitsColumns columns Cover = Unit {0}

-- the answer at an end: whether it does what is asked, where no step is too wide
abbrev pub TaskTells : Result Bool Wide → Task → PlayerOf → LeafOf → NodeOf → Type 0
TaskTells result task player leaf node =
    EndTells result (end_rule task player) (end_wide task player) leaf node

-- the node passes for the task, or is refused with this fault
abbrev pub NodeDoes : Task → PlayerOf → LeafOf → NodeOf → Type 0
NodeDoes task player leaf node =
    NodePasses (end_rule task player) (end_wide task player) player leaf node

abbrev pub NodeFails : Task → PlayerOf → ℕ → LeafOf → NodeOf → Fault → Type 0
NodeFails task player k leaf node fault =
    NodeRefused (end_rule task player) (end_wide task player) player k leaf node fault

-- the tree passes for the task, or is refused with this fault; k is the number of its root
abbrev pub TreeDoes : Task → PlayerOf → LeafOf → TreeOf → Type 0
TreeDoes task player leaf tree =
    IsRightBy (EndPasses (end_rule task player) (end_wide task player)) player leaf tree

abbrev pub TreeFails : Task → PlayerOf → ℕ → LeafOf → TreeOf → Fault → Type 0
TreeFails task player k leaf tree fault =
    IsRefusedBy (end_rule task player) (end_wide task player) player k leaf tree fault
