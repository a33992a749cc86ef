-- What the functions of the code give, in the words of the reading.
use Rattle.std.specs.Prelude.{◌≡◌, ℕ, ℤ, ◌+◌, List, [], ◌∷◌, true, Option, Some, None, Result, Ok, Err, option_copied}
use Rattle.std.proofs.Common.{Bor}
use Rattle.zr_form.specs.Code.{left_of}
use Rattle.zr_form.specs.Fields.{and_more}
use Rattle.zr_form.specs.Lines.{fields_of}
use Rattle.zr_form.specs.Numbers.{natural}
use Rattle.zr_form.specs.Reading.{Bytes}
use Rattle.zr_lines.specs.Reader.{multipliers}

-- a slot and its multiplier at the front of a line, with what is left of it; None where no pairs are there
abbrev pub TakesPair : Bytes → Option (ℕ × ℤ × Option (Bor (List ℕ))) → Type 0
TakesPair line (Some x) = multipliers true (fields_of line) ≡ and_more (Some (x.0, x.1)) (multipliers true (left_of (option_copied x.2)))
TakesPair line None = multipliers true (fields_of line) ≡ None

-- the least slot that is allowed after the last one
abbrev pub IsFloor : Option (Bor (List ℕ)) → ℕ → Type 0
IsFloor None least = least ≡ 0
IsFloor (Some slot) least = (n : ℕ) × (natural slot.now ≡ Some n) × (least ≡ n + 1)

-- something was taken from the front of a line, whatever it is; where it isn't there nothing was taken
abbrev pub TakesAny : {X : Type 0} → Option (Bor (List ℕ)) → Option (Option (Bor (List ℕ))) → Result (X × List Bytes) (List Bytes) → Type 0
TakesAny {X = X} left (Some rest) read = (x : X) × (read ≡ Ok (x, left_of (option_copied rest)))
TakesAny left None read = read ≡ Err (left_of (option_copied left))

-- this was taken from the front of a line
abbrev pub TakesThis : {X : Type 0} → X → Option (Bor (List ℕ)) → Option (Option (Bor (List ℕ))) → Result (X × List Bytes) (List Bytes) → Type 0
TakesThis x left (Some rest) read = read ≡ Ok (x, left_of (option_copied rest))
TakesThis x left None read = read ≡ Err (left_of (option_copied left))

-- nothing is left of a line, or a field is
abbrev pub IsEnd : {X : Type 0} → Option (Bor (List ℕ)) → Option X → Type 0
IsEnd left (Some x) = left_of (option_copied left) ≡ []
IsEnd left None = (f : Bytes) × (fs : List Bytes) × (left_of (option_copied left) ≡ f ∷ fs)

-- a field was taken that spells this number
abbrev pub TakesSpelled : {N : Type 0} → (Bytes → Option N) → Option (Bor (List ℕ)) → Option (Bor (List ℕ) × Option (Bor (List ℕ))) → Result (N × List Bytes) (List Bytes) → Type 0
TakesSpelled {N = N} number left (Some x) read = (n : N) × (number x.0.now ≡ Some n) × (read ≡ Ok (n, left_of (option_copied x.1)))
TakesSpelled number left None read = read ≡ Err (left_of (option_copied left))
