-- Combinations as they are summed: the sums themselves, and the first steps that are too wide.
use Rattle.std.specs.Prelude.{◌≡◌, ℕ, ◌<◌, ℤ, pos, List, length, slice_index_or, Ok, Err, ◌⊎◌}
use Rattle.zr_base.specs.declared.step.Wide.{Wide}
use Rattle.zr_base.specs.Sums.{sum_steps}
use Rattle.zr_base.specs.Terms.{Terms}
use Rattle.zr_lin.specs.declared.system.Combined.{Combined}
use Rattle.zr_lin.specs.DenseRows.{DenseRow, column_products, right_products, uses_strict, combination}

-- `left` and `sum` are the rows' combination
pub record IsCombination (row : ℕ → DenseRow) (mult : Terms) (left : List ℤ) (sum : Combined) : Type 0 where
  pub columns : (j : ℕ) → j < length left → slice_index_or left j (pos 0) ≡ (combination row mult).coef j
  pub right : sum.le ≡ (combination row mult).le
  pub strict : sum.strict ≡ (combination row mult).strict

-- `left` and `sum` are the rows' combination, summed from the left in the multipliers' order, and no step is too wide
pub record Combines (row : ℕ → DenseRow) (mult : Terms) (left : List ℤ) (sum : Combined) : Type 0 where
  pub columns : (j : ℕ) → j < length left → sum_steps (pos 0) (column_products row mult j) ≡ Ok (slice_index_or left j (pos 0))
  pub right : sum_steps (pos 0) (right_products row mult) ≡ Ok sum.le
  pub strict : sum.strict ≡ uses_strict row mult

-- w is the first step that is too wide in the sum of a column or in that of the right sides
abbrev pub HasWideStep : ℕ → (ℕ → DenseRow) → Terms → Wide → Type 0
HasWideStep columns row mult w =
    ((j : ℕ) × (j < columns) × (sum_steps (pos 0) (column_products row mult j) ≡ Err w)) ⊎ (sum_steps (pos 0) (right_products row mult) ≡ Err w)
