-- The bounds of numbers. Where `strict` is false the upper bounds are left out.
use Rattle.std.specs.Prelude.{◌≡◌, ℕ, ◌^◌, Bool, true, not, ◌&&◌, ◌||◌, nat_lt, nat_le, int_le, unsigned_abs, ℤ, pos}

-- x passes the test
abbrev pub Passes : {X : Type 0} → (X → Bool) → X → Type 0
Passes test x = test x ≡ true

-- below a limit that only the strict form has
abbrev pub below : Bool → ℕ → ℕ → Bool
below strict limit n = not strict || nat_lt n limit

-- an index or a count
abbrev pub is_index : Bool → ℕ → Bool
is_index strict n = below strict (2 ^ 32) n

-- a count of at least 1
abbrev pub is_count : Bool → ℕ → Bool
is_count strict n = is_index strict n && nat_le 1 n

-- within `±(2^127 - 1)`
abbrev pub is_narrow : Bool → ℤ → Bool
is_narrow strict z = not strict || nat_lt (unsigned_abs z) (2 ^ 127)

-- a number of at least 1
abbrev pub is_positive : Bool → ℤ → Bool
is_positive strict z = is_narrow strict z && int_le (pos 1) z
