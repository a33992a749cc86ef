-- One step of arithmetic, when its numbers are too wide, and how steps follow each other.
use Rattle.std.specs.Prelude.{◌^◌, ◌<◌, ℤ, ◌-ℤ◌, ◌*ℤ◌, nat_lt, unsigned_abs, if◌then◌else◌, Option, Some, None, option_and_then, Result, Ok, Err}
use Rattle.std.specs.Option.{ok_or}
use Rattle.zr_base.specs.declared.step.Wide.{Wide}

-- within `±(2^127 - 1)`
abbrev pub IsNarrow : ℤ → Type 0
IsNarrow z = unsigned_abs z < 2 ^ 127

-- z where it is narrow
unfoldable pub narrow : ℤ → Option ℤ
narrow z = if nat_lt (unsigned_abs z) (2 ^ 127) then Some z else None

-- `left.0 * left.1 - right.0 * right.1`, where both products and their difference are narrow
unfoldable pub narrow_cross : ℤ × ℤ → ℤ × ℤ → Option ℤ
narrow_cross left right =
    option_and_then (λ first. option_and_then (λ second. narrow (first -ℤ second)) (narrow (right.0 *ℤ right.1))) (narrow (left.0 *ℤ left.1))

-- the exact value, or the step itself where one of its numbers is too wide
unfoldable pub cross_of : ℤ × ℤ → ℤ × ℤ → Result ℤ Wide
cross_of left right = ok_or (narrow_cross left right) (record { left = left; right = right })

-- what was made goes on to the next step, and a step that is too wide ends all
infixl 10 ◌>>=◌
abbrev pub ◌>>=◌ : {A B : Type 0} → Result A Wide → (A → Result B Wide) → Result B Wide
Ok a >>= f = f a
Err w >>= f = Err w
