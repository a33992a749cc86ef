-- The three answers of a linear program by substitution, and that they come from a basic form.
use Rattle.std.specs.Prelude.{◌≡◌, ◌≢◌, ℕ, ◌<◌, ◌+◌, ℤ, pos, negsuc, neg_ℤ, ◌+ℤ◌, ◌*ℤ◌, ◌<ℤ◌, ◌≤ℤ◌, Bool, true, false, cond, List, length}
use Rattle.std.specs.List.{All}
use Rattle.zr_base.specs.Steps.{IsNarrow}
use Rattle.zr_base.specs.Terms.{Ascends, Terms, coef_at}
use Rattle.zr_base.specs.Points.{PointOf, num_of}
use Rattle.zr_lin.specs.DenseRows.{DenseRow, AreMultipliers, combination}
use Rattle.zr_lin.specs.Ineqs.{IneqHolds, Solves, row_at}
use Rattle.zr_simplex.specs.declared.program.Lp.{Lp}
use Rattle.zr_simplex.specs.declared.program.LpAnswer.{LpAnswer}
use Rattle.zr_simplex.specs.declared.program.LpAnswer.TheVariants.{Best, Empty, Unbounded}
use Rattle.zr_basis.specs.Programs.{Program, aim_at}
use Rattle.zr_simplex.specs.Programs.{program_of, lp_rows, numbers}
use Rattle.zr_basis.specs.BasicForms.{value_column, right_column, IsBasicSolution, IsBasicDirection}
use Rattle.zr_simplex.specs.Ends.{IsLeastAt, IsEmptyAt, IsEndlessAt}

-- the sum of the rows, each times its multiplier
abbrev pub weighed : Lp → Terms → DenseRow
weighed lp mult = combination (row_at (lp_rows lp)) mult

-- the point has a value of at least 0 for each column, and meets the rows
pub record IsFeasiblePoint (lp : Lp) (point : PointOf) : Type 0 where
  pub len : length point.num ≡ lp.columns
  pub nonnegative : (j : ℕ) → j < lp.columns → (pos 0) ≤ℤ num_of point j
  pub rows : Solves (lp_rows lp) (num_of point) point.den

-- the row is `-x v <= le`
abbrev pub IsLow : DenseRow → ℕ → Type 0
IsLow row v = (row.coef v ≡ negsuc 0) × ((j : ℕ) → j ≢ v → row.coef j ≡ pos 0)

-- multipliers of at least 1 by row, and extras of at least 1 by column, none of them too wide; a
-- row `-x v <= le` and the extra of v aren't both listed
pub record AreListed (lp : Lp) (mult extra : Terms) : Type 0 where
  pub multipliers : AreMultipliers (length lp.rows.items) mult
  pub extras : AreMultipliers lp.columns extra
  pub narrow : Ascends 0 (length lp.rows.items) mult × Ascends 0 lp.columns extra
  pub apart : (r v : ℕ) → r < length lp.rows.items → v < lp.columns
      → IsLow (row_at (lp_rows lp) r) v → coef_at mult r ≢ pos 0 → coef_at extra v ≡ pos 0

-- the point is feasible, and by the multipliers no feasible point has a lower value
pub record IsBest (lp : Lp) (point : PointOf) (scale worth : ℤ) (mult extra : Terms) : Type 0 where
  pub feasible : IsFeasiblePoint lp point
  pub listed : AreListed lp mult extra
  pub scale_above : (pos 1) ≤ℤ scale
  pub columns : (j : ℕ) → j < lp.columns
      → scale *ℤ numbers lp.aim.items j +ℤ (weighed lp mult).coef j ≡ coef_at extra j
  pub right : worth ≡ neg_ℤ (weighed lp mult).le
  pub value : worth *ℤ point.den ≡ scale *ℤ aim_at (program_of lp) (num_of point)
  pub narrow : IsNarrow scale × IsNarrow worth

-- by the multipliers no point is feasible
pub record IsEmpty (lp : Lp) (mult extra : Terms) : Type 0 where
  pub listed : AreListed lp mult extra
  pub columns : (j : ℕ) → j < lp.columns → (weighed lp mult).coef j ≡ coef_at extra j
  pub right : (weighed lp mult).le <ℤ (pos 0)

-- the point is feasible, and from there the value falls without end along the ray
pub record IsUnbounded (lp : Lp) (point : PointOf) (ray : List ℤ) : Type 0 where
  pub feasible : IsFeasiblePoint lp point
  pub len : length ray ≡ lp.columns
  pub nonnegative : (j : ℕ) → j < lp.columns → (pos 0) ≤ℤ numbers ray j
  pub rows : All (IneqHolds (numbers ray) (pos 0)) (lp_rows lp)
  pub falls : aim_at (program_of lp) (numbers ray) <ℤ (pos 0)

-- one of the three answers
abbrev pub IsAnswer : Lp → LpAnswer → Type 0
IsAnswer lp (Best point scale value mult extra) = IsBest lp point scale value mult.items extra.items
IsAnswer lp (Empty mult extra) = IsEmpty lp mult.items extra.items
IsAnswer lp (Unbounded point ray) = IsUnbounded lp point ray.items

-- the point is the basic solution
pub record IsBasicPoint (p : Program) (basis : ℕ → ℕ) (form : ℕ → ℕ → ℤ)
    (point : PointOf) : Type 0 where
  pub all : ℕ → ℤ
  pub solution : IsBasicSolution p basis form all point.den
  pub len : length point.num ≡ p.columns
  pub same : (j : ℕ) → j < p.columns → num_of point j ≡ all j

-- the ray is the basic direction that raises column col
pub record IsBasicRay (p : Program) (basis : ℕ → ℕ) (form : ℕ → ℕ → ℤ) (col : ℕ)
    (ray : List ℤ) : Type 0 where
  pub all : ℕ → ℤ
  pub raise : ℤ
  pub direction : IsBasicDirection p basis form col all raise
  pub len : length ray ≡ p.columns
  pub same : (j : ℕ) → j < p.columns → numbers ray j ≡ all j

-- the number, or its negation
abbrev pub signed : Bool → ℤ → ℤ
signed negated z = cond negated (neg_ℤ z) z

-- the multipliers are the numbers of the equation e at the slacks, and the extras those at the
-- columns, or all are their negations
pub record AreOf (p : Program) (e : ℕ → ℤ) (negated : Bool) (mult extra : Terms) : Type 0 where
  pub multipliers : (r : ℕ) → r < p.rows → coef_at mult r ≡ signed negated (e (p.columns + r))
  pub extras : (j : ℕ) → j < p.columns → coef_at extra j ≡ signed negated (e j)

-- the answer is due at the basic form and read off it: a point is the basic solution, a ray a basic
-- direction, and multipliers, extras, scale and value are the numbers of one equation
abbrev pub IsBasicAnswer : Program → (ℕ → ℕ) → (ℕ → ℕ → ℤ) → LpAnswer → Type 0
IsBasicAnswer p basis form (Best point scale value mult extra) =
    IsLeastAt p form × IsBasicPoint p basis form point × (scale ≡ form p.rows (value_column p))
    × (value ≡ form p.rows (right_column p)) × AreOf p (form p.rows) true mult.items extra.items
IsBasicAnswer p basis form (Empty mult extra) =
    (row : ℕ) × IsEmptyAt p form row × AreOf p (form row) false mult.items extra.items
IsBasicAnswer p basis form (Unbounded point ray) =
    (col : ℕ) × IsEndlessAt p form col × IsBasicPoint p basis form point
    × IsBasicRay p basis form col ray.items
