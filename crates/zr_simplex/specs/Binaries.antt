-- Numbers in binary.
use Rattle.std.specs.Prelude.{ℕ, ◌+◌, ◌*◌, Bool, true, false, List, [], ◌∷◌}

abbrev pub digit_of : Bool → ℕ
digit_of true = 1
digit_of false = 0

-- the number with these digits, of which the lowest comes first
abbrev pub number_of : List Bool → ℕ
number_of [] = 0
number_of (digit ∷ rest) = digit_of digit + 2 * number_of rest
