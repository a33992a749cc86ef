-- A question of an open path that is stuck.
use Rattle.std.proofs.Common.{sym, subst, List}
use Rattle.zr_lin.specs.declared.stuck.Stuck.{Stuck}
use Rattle.zr_game.specs.Players.{GameOf}
use Rattle.zr_game.specs.declared.choice.Choice.{Choice}
use Rattle.zr_game.specs.declared.kind.Kind.{Kind}
use Rattle.zr_system.specs.Regions.{LeavesOf}
use Rattle.zr_asked.specs.declared.question.Asked.{Asked}
use Rattle.zr_asked.specs.declared.question.Asked.TheVariants.{Branch, Choices}
use Rattle.zr_choices.specs.Replies.{IsChoicesQuestion, IsStuckChoices}
use Rattle.zr_comp.specs.Causes.{IsStuckCase}
use Rattle.zr_comp.specs.OpenPaths.{IsOpenChoicePath}

pub stuck_case : (game : GameOf) (leaves : LeavesOf) (kind : Kind) (path : List Choice)
    (question : Asked) (stuck : Stuck) → IsOpenChoicePath game leaves kind path
    → IsChoicesQuestion path question → IsStuckChoices game leaves path stuck
    → IsStuckCase game leaves kind question stuck
stuck_case game leaves kind path (Branch i moves aim) stuck opens is stuck_is = absurd is
stuck_case game leaves kind path (Choices made) stuck opens is stuck_is = (
  subst (IsOpenChoicePath game leaves kind) (sym is) opens,
  subst (λ (p : List Choice). IsStuckChoices game leaves p stuck) (sym is) stuck_is,
)
