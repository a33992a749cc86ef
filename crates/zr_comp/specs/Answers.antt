-- What a search over choices answers.
use Rattle.std.specs.Prelude.{◌≡◌, ℕ, ◌+◌, ◌*◌, ◌≤◌, List, [], length, map}
use Rattle.std.specs.List.{All}
use Rattle.zr_base.specs.Points.{PointOf}
use Rattle.zr_io.specs.declared.purse.Purse.{Purse}
use Rattle.zr_game.specs.Players.{GameOf}
use Rattle.zr_game.specs.declared.choice.Choice.{Choice}
use Rattle.zr_game.specs.declared.kind.Kind.{Kind}
use Rattle.zr_cases.specs.Cases.{rnode_of}
use Rattle.zr_cases.specs.Trees.{CasesOf, preorder}
use Rattle.zr_cases.specs.declared.refutation.Refutation.{Refutation}
use Rattle.zr_system.specs.Asked.{ChoiceExists}
use Rattle.zr_system.specs.Choices.{IsComplete}
use Rattle.zr_system.specs.Regions.{LeavesOf}
use Rattle.zr_refute.specs.Refuting.{RefutesBy, RefutesUnder, leaf_counts}
use Rattle.zr_choices.specs.Drawn.{AreDrawn}
use Rattle.zr_choices.specs.Replies.{IsSolvedBy}
use Rattle.zr_comp.specs.declared.answer.Found.{Found}
use Rattle.zr_comp.specs.declared.answer.Found.TheVariants.{Solved, Refuted}
use Rattle.zr_comp.specs.OpenCases.{IsOpenCases, case_units}
use Rattle.zr_comp.specs.OpenPaths.{AreOnce, IsOpenChoicePath, SuitsKind}

-- the list of choices is one of the kind and complete, has each choice once, and leads to a node
-- of an open tree
pub record IsCompleteList (game : GameOf) (leaves : LeavesOf) (kind : Kind)
    (path : List Choice) : Type 0 where
  pub exist : All (ChoiceExists game leaves) path
  pub suits : SuitsKind kind path
  pub complete : IsComplete game leaves kind path
  pub once : AreOnce path
  pub open_is : IsOpenChoicePath game leaves kind path

-- under some complete list of choices x solves the system, as a basic solution of the list's
-- question
abbrev pub IsSolution : GameOf → LeavesOf → Kind → PointOf → Type 0
IsSolution game leaves kind x =
    (path : List Choice) × IsCompleteList game leaves kind path × IsSolvedBy game leaves path x

-- the nodes are those of a tree that refutes the system, is open, has as many units as branches
-- were spent, and whose multipliers are drawn from the questions
pub record IsOpenRefutation (game : GameOf) (leaves : LeavesOf) (kind : Kind) (old new : Purse)
    (proof : Refutation) : Type 0 where
  pub tree : CasesOf
  pub nodes_are : preorder (leaf_counts leaves) tree ≡ map rnode_of proof.nodes.items
  pub refutes : RefutesUnder game leaves kind [] tree
  pub open_is : IsOpenCases game leaves kind [] tree
  pub spent : new.branches ≡ old.branches + case_units leaves tree
  pub drawn : RefutesBy (AreDrawn game leaves) game leaves kind [] tree
  pub few : length proof.nodes.items ≤ 1 + 2 * case_units leaves tree

abbrev pub IsFound : GameOf → LeavesOf → Kind → Purse → Purse → Found → Type 0
IsFound game leaves kind old new (Solved x) = IsSolution game leaves kind x
IsFound game leaves kind old new (Refuted proof) =
    IsOpenRefutation game leaves kind old new proof
