-- The question of a path of choices as the code has it.
use Rattle.std.specs.Prelude.{◌≡◌, ◌<◌, List, length}
use Rattle.std.specs.List.{All}
use Rattle.zr_lin.specs.Ineqs.{IsIneq}
use Rattle.zr_lin.specs.declared.stuck.Stuck.{Stuck}
use Rattle.zr_game.specs.Players.{GameOf}
use Rattle.zr_game.specs.declared.choice.Choice.{Choice}
use Rattle.zr_simplex.specs.Programs.{IsLp}
use Rattle.zr_system.specs.Asked.{HasWideCoefficient}
use Rattle.zr_system.specs.Lines.{base_lines}
use Rattle.zr_system.specs.Regions.{LeavesOf}
use Rattle.zr_system.specs.System.{system_rows}
use Rattle.zr_system.specs.Unknowns.{columns}
use Rattle.zr_choices.specs.declared.asking.Question.{Question}
use Rattle.zr_choices.specs.declared.reply.ChoiceStop.{ChoiceStop}
use Rattle.zr_choices.specs.declared.reply.ChoiceStop.TheVariants as AStop
use Rattle.zr_choices.specs.Asking.{Asks}
use Rattle.zr_choices.specs.Programs.{is_free}
use Rattle.zr_choices.specs.Replies.{IsChoicesQuestion}
use Rattle.zr_choices.specs.Signs.{sign_rows, spread}

-- the question is that of the path: its unknowns, its program, and by column the rows that say of
-- an unknown that it is at least 0
pub record IsQuestionUnder (game : GameOf) (leaves : LeavesOf) (path : List Choice)
    (q : Question) : Type 0 where
  pub few : length (columns game leaves) < 16777217
  pub order : q.order.items ≡ columns game leaves
  pub signs : q.signs.items ≡ spread (columns game leaves) (sign_rows (base_lines game leaves))
  pub form : All (IsIneq (length (columns game leaves))) (system_rows game leaves path)
  pub good : IsLp q.lp
  pub asks : Asks (is_free game leaves) (length (columns game leaves))
      (system_rows game leaves path) q.lp

-- the question isn't had because a step of a coefficient is too wide, or for want of memory
abbrev pub IsUnasked : GameOf → LeavesOf → ChoiceStop → Type 0
IsUnasked game leaves (AStop.Wide asked) = ⊥
IsUnasked game leaves (AStop.WideRow w) = HasWideCoefficient game leaves w
IsUnasked game leaves AStop.NoMemory = Unit {0}

-- the stop keeps the path and what is stuck, or is want of memory
abbrev pub KeepsPath : List Choice → Stuck → ChoiceStop → Type 0
KeepsPath path stuck (AStop.Wide asked) =
    IsChoicesQuestion path asked.question × (asked.stuck ≡ stuck)
KeepsPath path stuck (AStop.WideRow w) = ⊥
KeepsPath path stuck AStop.NoMemory = Unit {0}
