-- What the question of a path of choices is answered.
use Rattle.std.specs.Prelude.{◌≡◌, List}
use Rattle.zr_base.specs.Points.{PointOf, num_of}
use Rattle.zr_base.specs.Terms.{Terms}
use Rattle.zr_lin.specs.Ineqs.{Solves}
use Rattle.zr_lin.specs.declared.stuck.Stuck.{Stuck}
use Rattle.zr_game.specs.Players.{GameOf}
use Rattle.zr_game.specs.declared.choice.Choice.{Choice}
use Rattle.zr_simplex.specs.StuckSteps.{IsStuck}
use Rattle.zr_asked.specs.Stuck.{IsReached}
use Rattle.zr_asked.specs.declared.question.Asked.{Asked}
use Rattle.zr_asked.specs.declared.question.Asked.TheVariants.{Branch, Choices}
use Rattle.zr_system.specs.Asked.{HasWideCoefficient}
use Rattle.zr_system.specs.Regions.{LeavesOf}
use Rattle.zr_system.specs.System.{system_rows}
use Rattle.zr_cases.specs.Forms.{AreCounted}
use Rattle.zr_refute.specs.Refuting.{Closes}
use Rattle.zr_choices.specs.declared.reply.Reply.{Reply}
use Rattle.zr_choices.specs.declared.reply.Reply.TheVariants as AReply
use Rattle.zr_choices.specs.declared.reply.ChoiceStop.{ChoiceStop}
use Rattle.zr_choices.specs.declared.reply.ChoiceStop.TheVariants as AStop
use Rattle.zr_choices.specs.Drawn.{AreDrawn, IsChoicesSolution}
use Rattle.zr_choices.specs.Programs.{choices_program}

-- the point meets the system's rows under the path, the strict ones strictly, and is a basic
-- solution of the question
pub record IsSolvedBy (game : GameOf) (leaves : LeavesOf) (path : List Choice)
    (x : PointOf) : Type 0 where
  pub solves : Solves (system_rows game leaves path) (num_of x) x.den
  pub solution : IsChoicesSolution game leaves path x

-- the multipliers refute the system under the path, and are drawn from the question
pub record IsRefutedBy (game : GameOf) (leaves : LeavesOf) (path : List Choice)
    (mult : Terms) : Type 0 where
  pub counted : AreCounted mult
  pub closes : Closes game leaves path mult
  pub drawn : AreDrawn game leaves path mult

abbrev pub IsChoicesReply : GameOf → LeavesOf → List Choice → Reply → Type 0
IsChoicesReply game leaves path (AReply.Point x) = IsSolvedBy game leaves path x
IsChoicesReply game leaves path (AReply.Close mult) = IsRefutedBy game leaves path mult.items

-- the question is that of the path
abbrev pub IsChoicesQuestion : List Choice → Asked → Type 0
IsChoicesQuestion path (Choices made) = made.items ≡ path
IsChoicesQuestion path (Branch i moves aim) = ⊥

-- of the question's program the kept step, to which the method comes, is too wide
pub record IsStuckChoices (game : GameOf) (leaves : LeavesOf) (path : List Choice)
    (stuck : Stuck) : Type 0 where
  pub stuck_is : IsStuck (choices_program game leaves path) stuck
  pub reached : IsReached (choices_program game leaves path) stuck

-- the kept question is that of the path and stuck; or the kept step is one of a coefficient of the
-- system
abbrev pub IsChoicesCause : GameOf → LeavesOf → List Choice → ChoiceStop → Type 0
IsChoicesCause game leaves path (AStop.Wide asked) =
    IsChoicesQuestion path asked.question × IsStuckChoices game leaves path asked.stuck
IsChoicesCause game leaves path (AStop.WideRow w) = HasWideCoefficient game leaves w
IsChoicesCause game leaves path AStop.NoMemory = Unit {0}
