-- Numbers as text: `0`, or digits without a leading zero, with a `-` below zero.
use Rattle.std.specs.Prelude.{ℕ, zero, suc, ◌+◌, ◌-◌, ◌*◌, ◌/◌, ◌%◌, List, [], ◌∷◌, ◌++◌, Bool, true, false, ◌&&◌, nat_lt, nat_le, ◌==◌, if◌then◌else◌, Option, Some, None, option_map, ℤ, pos, negsuc}

-- the digits of n, at most so many: the last stands for the remainder by ten, those before it for the quotient
unfoldable pub digits : ℕ → ℕ → List ℕ
digits zero n = []
digits (suc most) n = if nat_lt n 10 then (48 + n) ∷ [] else digits most (n / 10) ++ (48 + n % 10) ∷ []

-- a number from 0 on as text
unfoldable pub decimal : ℕ → List ℕ
decimal n = digits (suc n) n

-- a number as text
unfoldable pub signed : ℤ → List ℕ
signed (pos n) = decimal n
signed (negsuc n) = 45 ∷ decimal (suc n)

-- what the digits after n stand for, n before them
unfoldable pub more_digits : ℕ → List ℕ → Option ℕ
more_digits n [] = Some n
more_digits n (d ∷ ds) = if nat_le 48 d && nat_lt d 58 then more_digits (n * 10 + (d - 48)) ds else None

-- whether nothing is left
abbrev pub is_end : List ℕ → Bool
is_end [] = true
is_end (d ∷ ds) = false

-- the number from 0 on that the text spells, if it spells one
unfoldable pub natural : List ℕ → Option ℕ
natural [] = None
natural (d ∷ ds) = if nat_lt 48 d && nat_lt d 58 then more_digits (d - 48) ds else (if d == 48 && is_end ds then Some 0 else None)

-- the number with a minus sign before it, where it isn't 0
abbrev pub negated : Option ℕ → Option ℤ
negated None = None
negated (Some zero) = None
negated (Some (suc n)) = Some (negsuc n)

-- the number that the text spells, if it spells one
unfoldable pub integer : List ℕ → Option ℤ
integer [] = None
integer (b ∷ bs) = if b == 45 then negated (natural bs) else option_map pos (natural (b ∷ bs))
