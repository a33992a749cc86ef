-- What the functions of the code give, in the words of the reading.
use Rattle.std.specs.Prelude.{◌≡◌, ℕ, ◌^◌, List, [], ◌∷◌, Option, Some, None, option_map, IsSome, Result, Ok, Err, ℤ, pos, int_le, option_copied, nat_lt, unsigned_abs}
use Rattle.std.proofs.Common.{Bor}
use Rattle.zr_form.specs.Reading.{Bytes, one_read}
use Rattle.zr_form.specs.Lines.{split_once, fields_of}
use Rattle.zr_form.specs.Numbers.{natural, integer}
use Rattle.zr_form.specs.Fields.{only_if}

-- a line, if something follows it
abbrev pub feed : List ℕ × Option (List ℕ) → Option (List ℕ × List ℕ)
feed (line, rest) = option_map (λ r. (line, r)) rest

-- the first line without its line feed and what follows it, if there is a line feed
abbrev pub line_cut : List ℕ → Option (List ℕ × List ℕ)
line_cut bytes = feed (split_once 10 bytes)

-- the fields that are left of a line
abbrev pub left_of : Option (List ℕ) → List Bytes
left_of None = []
left_of (Some bytes) = fields_of bytes

-- the number within `±(2^127 - 1)` that the text spells, if it spells one
abbrev pub narrow_integer : Bytes → Option ℤ
narrow_integer f = only_if (λ z. nat_lt (unsigned_abs z) (2 ^ 127)) (integer f)

-- the number below 2^127 that the text spells, if it spells one
abbrev pub narrow_natural : Bytes → Option ℕ
narrow_natural f = only_if (λ n. nat_lt n (2 ^ 127)) (natural f)

-- what was taken from the front of the line, and what is left of it; where nothing fits, nothing was taken
abbrev pub Takes : {X Y : Type 0} → (X → Y) → Option (Bor (List ℕ)) → Option (X × Option (Bor (List ℕ))) → Result (Y × List Bytes) (List Bytes) → Type 0
Takes view left (Some x) read = read ≡ Ok (view x.0, left_of (option_copied x.1))
Takes view left None read = read ≡ Err (left_of (option_copied left))

-- the same of a given word
abbrev pub TakesWord : List ℕ → Option (Bor (List ℕ)) → Option (Option (Bor (List ℕ))) → Result (Bytes × List Bytes) (List Bytes) → Type 0
TakesWord word left (Some x) read = read ≡ Ok (word, left_of (option_copied x))
TakesWord word left None read = read ≡ Err (left_of (option_copied left))

-- the number of at least 1 that the text spells, if it spells one
abbrev pub positive : Bytes → Option ℤ
positive f = only_if (λ z. int_le (pos 1) z) (integer f)

-- the field at the front was taken, which spells a number in this way; where it spells none, or there is no field, nothing was taken
abbrev pub TakesField : {N : Type 0} → (Bytes → Option N) → Option (Bor (List ℕ)) → Option (Bor (List ℕ) × Option (Bor (List ℕ))) → Type 0
TakesField number left (Some x) = IsSome (number x.0.now) × (left_of (option_copied left) ≡ x.0.now ∷ left_of (option_copied x.1))
TakesField number left None = one_read number (left_of (option_copied left)) ≡ Err (left_of (option_copied left))
