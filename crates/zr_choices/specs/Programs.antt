-- The linear programs of choices.
use Rattle.std.specs.Prelude.{ℕ, ◌+◌, ◌==◌, ℤ, pos, negsuc, Bool, true, false, if◌then◌else◌, List, length, slice_index_or}
use Rattle.zr_lin.specs.Ineqs.{IneqOf, row_at}
use Rattle.zr_basis.specs.Programs.{Program}
use Rattle.zr_game.specs.Players.{GameOf}
use Rattle.zr_game.specs.declared.choice.Choice.{Choice}
use Rattle.zr_system.specs.declared.unknown.Unknown.{Unknown}
use Rattle.zr_system.specs.declared.unknown.Unknown.TheVariants.{One, Worth, Share, Weight, Dual}
use Rattle.zr_system.specs.Regions.{LeavesOf}
use Rattle.zr_system.specs.Unknowns.{columns}
use Rattle.zr_system.specs.System.{system_rows}
use Rattle.zr_choices.specs.Parted.{parted_rows, place}

-- values and shares may be below zero
abbrev pub may_be_negative : Unknown → Bool
may_be_negative One = false
may_be_negative (Worth i) = true
may_be_negative (Share i k v) = true
may_be_negative (Weight i k) = false
may_be_negative (Dual i k s) = false

-- whether unknown j of the list may be
abbrev pub free_in : List Unknown → ℕ → Bool
free_in order j = may_be_negative (slice_index_or order j One)

-- whether unknown j of the system may be
abbrev pub is_free : GameOf → LeavesOf → ℕ → Bool
is_free game leaves = free_in (columns game leaves)

-- the last column, after those of the unknowns
abbrev pub last_column : GameOf → LeavesOf → ℕ
last_column game leaves = place (is_free game leaves) (length (columns game leaves))

-- the system's rows under the path, over the columns
abbrev pub choices_rows : GameOf → LeavesOf → List Choice → List IneqOf
choices_rows game leaves path =
    parted_rows (is_free game leaves) (length (columns game leaves)) (system_rows game leaves path)

-- to raise the last column
abbrev pub last_raised : ℕ → ℕ → ℤ
last_raised last j = if j == last then negsuc 0 else pos 0

-- how far the strict rows of the system under the path can be kept: the columns are the unknowns'
-- parts and a last one, which is at most 1 and is to be raised
abbrev pub choices_program : GameOf → LeavesOf → List Choice → Program
choices_program game leaves path = record {
  columns = last_column game leaves + 1;
  rows = length (choices_rows game leaves path);
  coef = λ r. (row_at (choices_rows game leaves path) r).coef;
  le = λ r. (row_at (choices_rows game leaves path) r).le;
  aim = last_raised (last_column game leaves);
}
