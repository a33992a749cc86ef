-- The linear programs of branches.
use Rattle.std.specs.Prelude.{ℕ, ◌<◌, ℤ, pos, ◌*ℤ◌, ◌<ℤ◌, ◌≤ℤ◌, Option, Some, None, List, [], ◌∷◌, length, slice_index_or}
use Rattle.zr_base.specs.Sums.{sum_to}
use Rattle.zr_basis.specs.Programs.{Program}
use Rattle.zr_game.specs.Players.{PlayerOf}
use Rattle.zr_game.specs.Leaves.{Bound, LeafOf, slots}
use Rattle.zr_asked.specs.Parts.{by_part, parts_of}

-- the slots that are present, in order
abbrev pub present : List (Option Bound) → List Bound
present [] = []
present (None ∷ slots) = present slots
present (Some row ∷ slots) = row ∷ present slots

-- row r of a list, or `0 <= 0` past its end
abbrev pub bound_at : List Bound → ℕ → Bound
bound_at rows r = slice_index_or rows r (record { coef = λ j. pos 0; le = pos 0 })

-- the least of the aim over the leaf's rows: the columns are the variables' parts, and the rows all
-- slots that are present
abbrev pub branch_program : PlayerOf → LeafOf → (ℕ → ℤ) → Program
branch_program player leaf aim = record {
  columns = length (parts_of player.vars);
  rows = length (present (slots player leaf));
  coef = λ r. by_part (parts_of player.vars) (bound_at (present (slots player leaf)) r).coef;
  le = λ r. (bound_at (present (slots player leaf)) r).le;
  aim = by_part (parts_of player.vars) aim;
}

-- columns y over d, which are at least 0, meet the program's rows
pub record SolvesProgram (p : Program) (y : ℕ → ℤ) (d : ℤ) : Type 0 where
  pub positive : (pos 0) <ℤ d
  pub nonnegative : (c : ℕ) → c < p.columns → (pos 0) ≤ℤ y c
  pub rows : (r : ℕ) → r < p.rows → sum_to p.columns (λ c. p.coef r c *ℤ y c) ≤ℤ (p.le r *ℤ d)
