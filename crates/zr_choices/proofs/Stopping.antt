-- Why a question stops.
use Rattle.std.proofs.Common.{sym, subst, List, slice_index}
use Rattle.zr_io.specs.declared.purse.Purse.{Purse}
use Rattle.zr_lin.specs.declared.stuck.Stuck.{Stuck}
use Rattle.zr_game.specs.Players.{GameOf}
use Rattle.zr_game.specs.declared.choice.Choice.{Choice}
use Rattle.zr_basis.specs.Runs.{IsFromSlacks}
use Rattle.zr_simplex.specs.Causes.{IsStuckAfter}
use Rattle.zr_simplex.specs.StuckSteps.{IsStuck}
use Rattle.zr_system.specs.Regions.{LeavesOf}
use Rattle.zr_choices.specs.declared.reply.ChoiceStop.{ChoiceStop}
use Rattle.zr_choices.specs.declared.reply.ChoiceStop.TheVariants as AStop
use Rattle.zr_choices.specs.Programs.{choices_program}
use Rattle.zr_choices.specs.Questions.{KeepsPath}
use Rattle.zr_choices.specs.Replies.{IsChoicesCause, IsStuckChoices}

pub stuck_choices : (game : GameOf) (leaves : LeavesOf) (path : List Choice) (stuck : Stuck)
    (old new : Purse) → IsStuck (choices_program game leaves path) stuck
    → IsStuckAfter (choices_program game leaves path)
    (IsFromSlacks (choices_program game leaves path))
    old new (λ i. slice_index stuck.basis.items i) stuck.step stuck.wide
    → IsStuckChoices game leaves path stuck
stuck_choices game leaves path stuck old new is after = record {
  stuck_is = is;
  reached = (after.0, after.1, after.3, after.4);
}

pub choices_cause : (game : GameOf) (leaves : LeavesOf) (path : List Choice) (stuck : Stuck)
    (stop : ChoiceStop) → KeepsPath path stuck stop → IsStuckChoices game leaves path stuck
    → IsChoicesCause game leaves path stop
choices_cause game leaves path stuck (AStop.Wide asked) keeps is =
    (keeps.0, subst (IsStuckChoices game leaves path) (sym keeps.1) is)
choices_cause game leaves path stuck (AStop.WideRow w) keeps is = absurd keeps
choices_cause game leaves path stuck AStop.NoMemory keeps is = tt
