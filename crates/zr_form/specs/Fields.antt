-- The fields of a line: words, and numbers that pass a test.
use Rattle.std.specs.Prelude.{ℕ, List, [], ◌∷◌, Bool, if◌then◌else◌, Option, Some, None, option_map, Result, Ok, Err, ℤ, bytes_eq}
use Rattle.zr_form.specs.Reading.{Bytes, Read, join_read, one_read}
use Rattle.zr_form.specs.Numbers.{natural, integer}

-- the value, if it passes the test
abbrev pub only_if : {X : Type 0} → (X → Bool) → Option X → Option X
only_if test None = None
only_if test (Some x) = if test x then Some x else None

-- this word
unfoldable pub word_read : Bytes → Read Bytes
word_read word = one_read (λ f. if bytes_eq f word then Some f else None)

-- a number that isn't below zero and passes the test
unfoldable pub natural_read : (ℕ → Bool) → Read ℕ
natural_read test = one_read (λ f. only_if test (natural f))

-- a number that passes the test
unfoldable pub integer_read : (ℤ → Bool) → Read ℤ
integer_read test = one_read (λ f. only_if test (integer f))

-- one value more at the front
abbrev pub and_more : {X : Type 0} → Option X → Option (List X) → Option (List X)
and_more None o = None
and_more (Some x) o = option_map (λ xs. x ∷ xs) o

-- numbers to the end
unfoldable pub integers : (ℤ → Bool) → List Bytes → Option (List ℤ)
integers test [] = Some []
integers test (f ∷ fs) = and_more (only_if test (integer f)) (integers test fs)

-- the value, if nothing is left
abbrev pub alone : {X : Type 0} → X → List Bytes → Option X
alone x [] = Some x
alone x (f ∷ fs) = None

-- what is read, if nothing is left
abbrev pub ended : {X : Type 0} → Result (X × List Bytes) (List Bytes) → Option X
ended (Ok x) = alone x.0 x.1
ended (Err fs) = None

-- what was read, and then the others to the end
abbrev pub and_whole : {X Y Z : Type 0} → (X → Y → Z) → Result (X × List Bytes) (List Bytes) → (X → List Bytes → Option Y) → Option Z
and_whole make (Ok x) second = option_map (make x.0) (second x.0 x.1)
and_whole make (Err fs) second = None

-- one after the other, the second to the end
abbrev pub join_whole : {X Y Z : Type 0} → (X → Y → Z) → Read X → (X → List Bytes → Option Y) → List Bytes → Option Z
join_whole make first second fs = and_whole make (first fs) second

-- what follows this word
abbrev pub skip : {X : Type 0} → Bytes → Read X → Read X
skip word read = join_read (λ w x. x) (word_read word) (λ w. read)

-- two things, one after the other
abbrev pub pair : {X Y : Type 0} → Read X → Read Y → Read (X × Y)
pair first second = join_read (λ x y. (x, y)) first (λ x. second)
