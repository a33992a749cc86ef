-- Solutions and multipliers that are drawn from the bases of the programs of choices.
use Rattle.std.specs.Prelude.{◌≡◌, ◌≢◌, ℕ, ◌+◌, ◌<◌, ◌≤◌, ℤ, pos, ◌+ℤ◌, ◌*ℤ◌, Bool, false, if◌then◌else◌, List, length, slice_index_or}
use Rattle.zr_base.specs.Points.{PointOf, num_of}
use Rattle.zr_base.specs.Sums.{sum_to}
use Rattle.zr_base.specs.Terms.{Terms, coef_at}
use Rattle.zr_basis.specs.BasicForms.{IsBasicForm, IsBasicSolution}
use Rattle.zr_game.specs.Players.{GameOf}
use Rattle.zr_game.specs.declared.choice.Choice.{Choice}
use Rattle.zr_system.specs.declared.line.Line.{Line}
use Rattle.zr_system.specs.declared.line.Line.TheVariants as ALine
use Rattle.zr_system.specs.declared.unknown.Unknown.{Unknown}
use Rattle.zr_system.specs.declared.unknown.Unknown.TheVariants.{One, Weight, Dual}
use Rattle.zr_system.specs.Asked.{no_line}
use Rattle.zr_system.specs.Forms.{is_same}
use Rattle.zr_system.specs.Lines.{all_lines}
use Rattle.zr_system.specs.Regions.{LeavesOf}
use Rattle.zr_system.specs.System.{system_rows}
use Rattle.zr_system.specs.Unknowns.{columns}
use Rattle.zr_asked.specs.Drawn.{HasNoDivisor}
use Rattle.zr_choices.specs.Parted.{joined, place}
use Rattle.zr_choices.specs.Programs.{choices_program, is_free, last_column}

-- x is a basic solution of the question: each unknown has what its columns give
pub record IsChoicesSolution (game : GameOf) (leaves : LeavesOf) (path : List Choice)
    (x : PointOf) : Type 0 where
  pub basis : ℕ → ℕ
  pub form : ℕ → ℕ → ℤ
  pub parts : ℕ → ℤ
  pub is_form : IsBasicForm (choices_program game leaves path) basis form
  pub solution : IsBasicSolution (choices_program game leaves path) basis form parts x.den
  pub len : length x.num ≡ length (columns game leaves)
  pub values : (j : ℕ) → j < length (columns game leaves)
      → num_of x j ≡ joined (is_free game leaves) parts j

-- the row says that this unknown is at least 0
abbrev pub keeps_up : Line → Unknown → Bool
keeps_up (ALine.Weight i k false) u = is_same (Weight i k) u
keeps_up (ALine.Dual i k s false) u = is_same (Dual i k s) u
keeps_up line u = false

-- what an equation says of row r of the system: its number at the row's slack, and, where the row
-- says that an unknown is at least 0, that at the unknown's column
abbrev pub row_number : GameOf → LeavesOf → List Choice → (ℕ → ℤ) → ℕ → ℤ
row_number game leaves path e r =
    e (last_column game leaves + 1 + r) +ℤ sum_to (length (columns game leaves))
    (λ j. if keeps_up (slice_index_or (all_lines game leaves path) r no_line)
    (slice_index_or (columns game leaves) j One) then e (place (is_free game leaves) j) else pos 0)

-- up to a factor, the multiplier of each row of the system is what the equation says of it
pub record AreInProportion (game : GameOf) (leaves : LeavesOf) (path : List Choice) (e : ℕ → ℤ)
    (mult : Terms) : Type 0 where
  pub by : ℤ
  pub of : ℤ
  pub by_apart : by ≢ pos 0
  pub of_apart : of ≢ pos 0
  pub rows_are : (r : ℕ) → r < length (system_rows game leaves path)
      → by *ℤ coef_at mult r ≡ of *ℤ row_number game leaves path e r

-- the multipliers are in proportion to one equation of the basic form of a basis of the question,
-- and have no common divisor
pub record AreDrawn (game : GameOf) (leaves : LeavesOf) (path : List Choice)
    (mult : Terms) : Type 0 where
  pub basis : ℕ → ℕ
  pub form : ℕ → ℕ → ℤ
  pub row : ℕ
  pub is_form : IsBasicForm (choices_program game leaves path) basis form
  pub below : row ≤ (choices_program game leaves path).rows
  pub proportion : AreInProportion game leaves path (form row) mult
  pub divisors : HasNoDivisor (pos 0) mult
