-- Rows `coef * x <= le`, and when they hold at a point.
use Rattle.std.specs.Prelude.{ℤ, pos, ◌*ℤ◌, ◌≤ℤ◌, Bool, int_le, List, map, slice_index_or, Result, Ok}
use Rattle.zr_base.specs.declared.step.Wide.{Wide}
use Rattle.zr_base.specs.declared.row.Row.{Row}
use Rattle.zr_base.specs.Steps.{cross_of, ◌>>=◌}
use Rattle.zr_base.specs.Sums.{sum_products, sum_steps}
use Rattle.zr_base.specs.Terms.{Terms}
use Rattle.zr_base.specs.Points.{PointOf}

pub record RowOf : Type 0 where
  pub coef : Terms
  pub le : ℤ

-- the content of a row
abbrev pub row_of : Row → RowOf
row_of row = record { coef = row.coef.items; le = row.le }

-- each number with the numerator at its column
abbrev pub products : Terms → List ℤ → List (ℤ × ℤ)
products coef num = map (λ t. (t.1, slice_index_or num t.0 (pos 0))) coef

-- the sum of number times numerator is at most `le` times the denominator
abbrev pub RowHolds : PointOf → RowOf → Type 0
RowHolds x row = sum_products (products row.coef x.num) ≤ℤ (row.le *ℤ x.den)

-- whether the row holds, by the steps of its left side and then its right side
abbrev pub holds_of : PointOf → RowOf → Result Bool Wide
holds_of x row = do
  left ← sum_steps (pos 0) (products row.coef x.num)
  right ← cross_of (row.le, x.den) (pos 0, pos 0)
  Ok (int_le left right)
