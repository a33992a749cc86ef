-- Least common multiples: each other common multiple is a multiple of them.
use Rattle.std.specs.Prelude.{ℤ, pos, neg_ℤ, ◌<ℤ◌, List}
use Rattle.std.specs.List.{All}
use Rattle.zr_base.specs.Fractions.{Fraction, IsSame, times, whole}
use Rattle.zr_game.specs.Feasible.{IsMultiple}
use Rattle.zr_mix.specs.Claims.{IsMultipleOf}

-- of two numbers
pub record IsLcm (a b m : ℤ) : Type 0 where
  pub positive : (pos 0) <ℤ m
  pub first : IsMultiple m a
  pub second : IsMultiple m b
  pub least : (n : ℤ) → IsMultiple n a → IsMultiple n b → IsMultiple n m

-- of the denominators
pub record IsLcmOf (fs : List Fraction) (m : ℤ) : Type 0 where
  pub positive : (pos 0) <ℤ m
  pub each : All (IsMultipleOf m) fs
  pub least : (n : ℤ) → All (IsMultipleOf n) fs → IsMultiple n m

-- the number is m times the fraction, negated
abbrev pub IsNegatedOver : ℤ → Fraction → ℤ → Type 0
IsNegatedOver m f number = IsSame (times (whole m) f) (whole (neg_ℤ number))
