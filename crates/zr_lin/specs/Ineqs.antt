-- Systems of inequalities: their content, and their solutions in fractions.
use Rattle.std.specs.Prelude.{ℕ, ℤ, pos, ◌*ℤ◌, ◌<ℤ◌, Bool, false, List, [], map, length, slice_index_or}
use Rattle.std.specs.List.{All}
use Rattle.zr_base.specs.Steps.{IsNarrow}
use Rattle.zr_base.specs.Terms.{Terms, Ascends, coef_at, value_at}
use Rattle.zr_lin.specs.declared.system.Ineq.{Ineq}
use Rattle.zr_lin.specs.declared.system.System.{System}
use Rattle.zr_lin.specs.DenseRows.{DenseRow, IsBelow, HasRefutation}

pub record IneqOf : Type 0 where
  pub coef : Terms
  pub le : ℤ
  pub strict : Bool

-- the content of an inequality
abbrev pub ineq_of : Ineq → IneqOf
ineq_of row = record { coef = row.coef.items; le = row.le; strict = row.strict }

-- the rows of a system
abbrev pub rows_of : System → List IneqOf
rows_of sys = map ineq_of sys.rows.items

-- columns ascend and are below `columns`, and no number is too wide
abbrev pub IsIneq : ℕ → IneqOf → Type 0
IsIneq columns row = Ascends 0 columns row.coef × IsNarrow row.le

-- the row holds at the fractions `p j / d`
abbrev pub IneqHolds : (ℕ → ℤ) → ℤ → IneqOf → Type 0
IneqHolds p d row = IsBelow row.strict (value_at row.coef p) (row.le *ℤ d)

-- the fractions `p j / d` meet each row
abbrev pub Solves : List IneqOf → (ℕ → ℤ) → ℤ → Type 0
Solves rows p d = ((pos 0) <ℤ d) × All (IneqHolds p d) rows

abbrev pub HasSolution : List IneqOf → Type 0
HasSolution rows = (p : ℕ → ℤ) × (d : ℤ) × Solves rows p d

abbrev pub HasNoSolution : List IneqOf → Type 0
HasNoSolution rows = (p : ℕ → ℤ) (d : ℤ) → Solves rows p d → ⊥

-- the row with 0 at the columns that aren't listed
abbrev pub dense : IneqOf → DenseRow
dense row = record { coef = coef_at row.coef; le = row.le; strict = row.strict }

-- row k, or `0 <= 0` where there is none
abbrev pub row_at : List IneqOf → ℕ → DenseRow
row_at rows k = dense (slice_index_or rows k (record { coef = []; le = pos 0; strict = false }))

-- some multipliers refute the rows
abbrev pub IsRefuted : ℕ → List IneqOf → Type 0
IsRefuted columns rows = HasRefutation columns (length rows) (row_at rows)
