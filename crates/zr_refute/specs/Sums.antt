-- One row more in a combination of the system's rows, and what a test of one tells.
use Rattle.std.specs.Prelude.{◌≡◌, ◌↔◌, ℕ, ◌<◌, ℤ, pos, neg_ℤ, Bool, IsTrue, List, length, slice_index_or, Result, Ok, Err}
use Rattle.zr_base.specs.declared.step.Wide.{Wide}
use Rattle.zr_base.specs.Sums.{sum_step}
use Rattle.zr_game.specs.Players.{GameOf}
use Rattle.zr_game.specs.declared.choice.Choice.{Choice}
use Rattle.zr_system.specs.declared.line.Line.{Line}
use Rattle.zr_system.specs.declared.unknown.Unknown.{Unknown}
use Rattle.zr_system.specs.declared.unknown.Unknown.TheVariants.{One}
use Rattle.zr_system.specs.Forms.{number_at}
use Rattle.zr_system.specs.Lines.{row_of_line}
use Rattle.zr_system.specs.Regions.{LeavesOf}
use Rattle.zr_tree.specs.Nodes.{Multipliers}
use Rattle.zr_refute.specs.Refuting.{EndRule}

-- the number of an unknown in a row
abbrev pub line_number : GameOf → LeavesOf → Line → Unknown → ℤ
line_number game leaves line u = number_at (row_of_line game leaves line).left u

-- the sums by column with a multiple of the row
abbrev pub AreAdded : GameOf → LeavesOf → List Unknown → Line → ℤ → List ℤ → List ℤ → Type 0
AreAdded game leaves order line by old new =
    (j : ℕ) → j < length old
    → sum_step (slice_index_or old j (pos 0))
    (by, line_number game leaves line (slice_index_or order j One))
    ≡ Ok (slice_index_or new j (pos 0))

-- w is the step that is too wide in one of these sums
abbrev pub IsWideAdded : GameOf → LeavesOf → List Unknown → Line → ℤ → List ℤ → Wide → Type 0
IsWideAdded game leaves order line by old w =
    (j : ℕ) × (j < length old) × (sum_step (slice_index_or old j (pos 0))
    (by, line_number game leaves line (slice_index_or order j One)) ≡ Err w)

-- the sum of the right sides with a multiple of the row
abbrev pub right_step : GameOf → LeavesOf → Line → ℤ → ℤ → Result ℤ Wide
right_step game leaves line by le = sum_step le (by, neg_ℤ (line_number game leaves line One))

-- the answer at an end: whether it keeps the rule, where no step is too wide
abbrev pub EndTells : Result Bool Wide → EndRule → EndRule → List Choice → Multipliers → Type 0
EndTells (Ok keeps) right wide path mult = (wide path mult → ⊥) × (IsTrue keeps ↔ right path mult)
EndTells (Err w) right wide path mult = wide path mult
