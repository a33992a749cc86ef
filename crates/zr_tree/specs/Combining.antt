-- Combinations of slots as they are summed.
use Rattle.std.specs.Prelude.{◌≡◌, ℕ, ◌<◌, ℤ, pos, Option, List, length, slice_index_or, Ok, IsErr, ◌⊎◌}
use Rattle.zr_base.specs.Sums.{sum_step}
use Rattle.zr_game.specs.Leaves.{Bound}
use Rattle.zr_tree.specs.Nodes.{Multipliers}
use Rattle.zr_tree.specs.Steps.{left_steps, right_steps}

-- each sum with one product more, `by` times the column's number
abbrev pub AreAdded : List ℤ → (ℕ → ℤ) → ℤ → List ℤ → Type 0
AreAdded old coef by new =
    (j : ℕ) → j < length old → sum_step (slice_index_or old j (pos 0)) (by, coef j) ≡ Ok (slice_index_or new j (pos 0))

-- a column at which that is too wide
abbrev pub HasWideColumn : List ℤ → (ℕ → ℤ) → ℤ → Type 0
HasWideColumn old coef by = (j : ℕ) × (j < length old) × IsErr (sum_step (slice_index_or old j (pos 0)) (by, coef j))

-- the combination, summed from the left in the multipliers' order: its left side by column, and its right side
pub record IsCombined (rows : List (Option Bound)) (mult : Multipliers) (sums : List ℤ) (le : ℤ) : Type 0 where
  pub left : (j : ℕ) → j < length sums → left_steps rows mult j ≡ Ok (slice_index_or sums j (pos 0))
  pub right : right_steps rows mult ≡ Ok le

-- a step of these sums is too wide
abbrev pub HasWideStep : ℕ → List (Option Bound) → Multipliers → Type 0
HasWideStep columns rows mult =
    ((j : ℕ) × (j < columns) × IsErr (left_steps rows mult j)) ⊎ IsErr (right_steps rows mult)
