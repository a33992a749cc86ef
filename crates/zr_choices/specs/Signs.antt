-- The rows that say of an unknown that it is at least 0, by row number and by column.
use Rattle.std.specs.Prelude.{ℕ, suc, Bool, true, false, if◌then◌else◌, List, [], ◌∷◌, drop, slice_index_or}
use Rattle.zr_system.specs.declared.line.Line.{Line}
use Rattle.zr_system.specs.declared.line.Line.TheVariants as ALine
use Rattle.zr_system.specs.declared.unknown.Unknown.{Unknown}
use Rattle.zr_choices.specs.Programs.{may_be_negative}

-- the row says that an unknown is at least 0
abbrev pub is_sign : Line → Bool
is_sign (ALine.Weight i k false) = true
is_sign (ALine.Dual i k s false) = true
is_sign line = false

-- the numbers, from n on, of the items that pass the test
abbrev pub numbers_of : {A : Type 0} → (A → Bool) → ℕ → List A → List ℕ
numbers_of test n [] = []
numbers_of test n (x ∷ xs) =
    if test x then n ∷ numbers_of test (suc n) xs else numbers_of test (suc n) xs

-- the rows that say so, by number
abbrev pub sign_rows : List Line → List ℕ
sign_rows lines = numbers_of is_sign 0 lines

-- the unknown is at least 0
abbrev pub is_up : Unknown → Bool
is_up u = if may_be_negative u then false else true

-- the rows in turn, one at the column of each unknown that is at least 0, and 0 at the others'
abbrev pub spread : List Unknown → List ℕ → List ℕ
spread [] rows = []
spread (u ∷ us) rows =
    if may_be_negative u then 0 ∷ 0 ∷ spread us rows
    else slice_index_or rows 0 0 ∷ spread us (drop 1 rows)
