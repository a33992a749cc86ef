-- A linear program as it is handed in.
use Rattle.std.specs.Prelude.{◌≡◌, ℕ, ◌+◌, ◌<◌, ℤ, pos, false, List, map, length, slice_index_or}
use Rattle.std.specs.List.{All}
use Rattle.zr_base.specs.Steps.{IsNarrow}
use Rattle.zr_lin.specs.Ineqs.{IneqOf, IsIneq, ineq_of, row_at}
use Rattle.zr_basis.specs.Programs.{Program}
use Rattle.zr_simplex.specs.declared.program.Lp.{Lp}

-- the numbers of a list by place, 0 past its end
abbrev pub numbers : List ℤ → ℕ → ℤ
numbers xs j = slice_index_or xs j (pos 0)

-- the content of the rows
abbrev pub lp_rows : Lp → List IneqOf
lp_rows lp = map ineq_of lp.rows.items

-- the program as numbers
abbrev pub program_of : Lp → Program
program_of lp = record {
  columns = lp.columns;
  rows = length lp.rows.items;
  coef = λ r. (row_at (lp_rows lp) r).coef;
  le = λ r. (row_at (lp_rows lp) r).le;
  aim = numbers lp.aim.items;
}

-- no row is strict, the aim has a number for each column, no number is too wide, and columns and
-- rows are at most 2^32 - 3
pub record IsLp (lp : Lp) : Type 0 where
  pub rows : All (IsIneq lp.columns) (lp_rows lp)
  pub weak : All (λ row. row.strict ≡ false) (lp_rows lp)
  pub aim : length lp.aim.items ≡ lp.columns
  pub narrow : All IsNarrow lp.aim.items
  pub size : lp.columns + length lp.rows.items < 4294967294
