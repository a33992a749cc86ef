-- What has to hold of every feasible point for a player to have no better answer, as one row of
-- whole numbers.
use Rattle.std.specs.Prelude.{◌≡◌, ℕ, ◌<◌, ℤ, pos, neg_ℤ, ◌*ℤ◌, ◌<ℤ◌, ◌≤ℤ◌, List, length, slice_index_or}
use Rattle.std.specs.List.{All}
use Rattle.zr_base.specs.Fractions.{Fraction, IsSame, times, whole}

-- m is a multiple of the denominator
abbrev pub IsMultipleOf : ℤ → Fraction → Type 0
IsMultipleOf m f = (k : ℤ) × (m ≡ k *ℤ f.den)

-- m is the least common multiple of the denominators of the slope and the value
pub record IsLeastMultiple (m : ℤ) (slope : List Fraction) (value : Fraction) : Type 0 where
  pub positive : (pos 0) <ℤ m
  pub slopes : All (IsMultipleOf m) slope
  pub of_value : IsMultipleOf m value
  pub least : (n : ℤ) → (pos 0) <ℤ n → All (IsMultipleOf n) slope → IsMultipleOf n value → m ≤ℤ n

-- `left * x <= right` is `-m * slope * x <= -m * value`
pub record IsClaim (slope : List Fraction) (value : Fraction) (m : ℤ) (left : List ℤ)
    (right : ℤ) : Type 0 where
  pub common : IsLeastMultiple m slope value
  pub len : length left ≡ length slope
  pub lefts : (v : ℕ) → v < length slope
      → IsSame (times (whole m) (slice_index_or slope v (whole (pos 0))))
      (whole (neg_ℤ (slice_index_or left v (pos 0))))
  pub rights : IsSame (times (whole m) value) (whole (neg_ℤ right))
