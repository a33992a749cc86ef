-- Multipliers of rows and extras of columns that may be merged.
use Rattle.std.specs.Prelude.{◌≡◌, ◌≢◌, ℕ, ◌<◌, pos, nat_lt, if◌then◌else◌, List, [], ◌∷◌, length, slice_index}
use Rattle.zr_base.specs.Terms.{Terms, coef_at}

-- the items whose numbers are below n
abbrev pub first_terms : ℕ → Terms → Terms
first_terms n [] = []
first_terms n (t ∷ ts) = if nat_lt t.0 n then t ∷ first_terms n ts else first_terms n ts

-- the rows of columns are numbers below 2^32; those of listed extras ascend, and none of them has
-- a
-- multiplier
pub record AreRows (rows : List ℕ) (mult extra : Terms) : Type 0 where
  pub fit : (k : ℕ) → k < length rows → slice_index rows k < 4294967296
  pub rise : (k l : ℕ) → k < l → l < length rows → coef_at extra k ≢ pos 0
      → coef_at extra l ≢ pos 0 → slice_index rows k < slice_index rows l
  pub apart : (k : ℕ) → k < length rows → coef_at extra k ≢ pos 0
      → coef_at mult (slice_index rows k) ≡ pos 0
