-- Variables as columns that are at least 0.
use Rattle.std.specs.Prelude.{ℕ, suc, ◌==◌, ℤ, pos, negsuc, ◌+ℤ◌, ◌*ℤ◌, Bool, false, int_le, Option, Some, None, if◌then◌else◌, List, [], ◌∷◌, slice_index_or}
use Rattle.zr_game.specs.Players.{VarOf}

-- a column: the number of its variable, and 1 for the positive part or -1 for the negative part
abbrev pub Part : Type 0
Part = ℕ × ℤ

-- the variable's lower bound in the game is at least 0
abbrev pub is_from_zero : Option ℤ → Bool
is_from_zero None = false
is_from_zero (Some low) = int_le (pos 0) low

-- the columns of the variables from number v on, in order: one where the lower bound is at least
-- 0, and else two neighbours, the positive part and the negative part
abbrev pub parts_from : ℕ → List VarOf → List Part
parts_from v [] = []
parts_from v (var ∷ vars) =
    if is_from_zero var.low
    then (v, pos 1) ∷ parts_from (suc v) vars
    else (v, pos 1) ∷ (v, negsuc 0) ∷ parts_from (suc v) vars

abbrev pub parts_of : List VarOf → List Part
parts_of vars = parts_from 0 vars

-- the column of that number
abbrev pub part_at : List Part → ℕ → Part
part_at parts c = slice_index_or parts c (0, pos 0)

-- the numbers of a row or an aim by column
abbrev pub by_part : List Part → (ℕ → ℤ) → ℕ → ℤ
by_part parts coef c = (part_at parts c).1 *ℤ coef (part_at parts c).0

-- what a variable's columns give: the sum of sign times number, over those columns from c on
abbrev pub value_from : ℕ → List Part → (ℕ → ℤ) → ℕ → ℤ
value_from c [] y v = pos 0
value_from c (part ∷ parts) y v =
    (if part.0 == v then part.1 *ℤ y c else pos 0) +ℤ value_from (suc c) parts y v

-- the value of variable v: positive minus negative part
abbrev pub value_by : List Part → (ℕ → ℤ) → ℕ → ℤ
value_by parts y v = value_from 0 parts y v
