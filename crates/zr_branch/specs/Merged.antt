-- Lists of multipliers by number, renamed and merged.
use Rattle.std.specs.Prelude.{◌≢◌, ℕ, ◌<◌, ℤ, pos, ◌≤ℤ◌, Bool, IsTrue, List, [], ◌∷◌, map, length, slice_index}
use Rattle.zr_base.specs.Steps.{IsNarrow}
use Rattle.zr_base.specs.Terms.{Terms, AscendWith, coef_at}

-- with other numbers
abbrev pub renamed : (ℕ → ℕ) → Terms → Terms
renamed name ts = map (λ t. (name t.0, t.1)) ts

-- at least 1, and not too wide
abbrev pub IsMultiplier : ℤ → Type 0
IsMultiplier z = ((pos 1) ≤ℤ z) × IsNarrow z

-- the numbers ascend below `count`, and each multiplier is at least 1
abbrev pub AreAtLeastOne : ℕ → Terms → Type 0
AreAtLeastOne count ts = AscendWith IsMultiplier 0 count ts

-- each number passes the test
abbrev pub AllPass : (ℕ → Bool) → Terms → Type 0
AllPass test [] = Unit {0}
AllPass test (t ∷ ts) = IsTrue (test t.0) × AllPass test ts

-- the names are below 1024, and those of the listed numbers ascend
pub record AreNames (names : List ℕ) (mult : Terms) : Type 0 where
  pub fits : (r : ℕ) → r < length names → slice_index names r < 1024
  pub rises : (r s : ℕ) → r < s → s < length names → coef_at mult r ≢ pos 0
      → coef_at mult s ≢ pos 0 → slice_index names r < slice_index names s
