-- Bytes as lines, and a line as fields.
use Rattle.std.specs.Prelude.{ℕ, List, [], ◌∷◌, ◌++◌, ◌==◌, if◌then◌else◌, Option, Some, None, option_map, option_and_then}
use Rattle.zr_form.specs.Reading.{Bytes}

-- the bytes before the first separator, and those after it if there is one
unfoldable pub split_once : ℕ → List ℕ → List ℕ × Option (List ℕ)
split_once separator [] = ([], None)
split_once separator (b ∷ bytes) =
    let later = split_once separator bytes in
    if b == separator then ([], Some bytes) else (b ∷ later.0, later.1)

-- one byte more at the front of the first piece
abbrev pub onto : ℕ → List Bytes → List Bytes
onto b [] = (b ∷ []) ∷ []
onto b (p ∷ ps) = (b ∷ p) ∷ ps

-- the lines of a text, each with its line feed, which the last may lack
unfoldable pub lines_of : List ℕ → List Bytes
lines_of [] = []
lines_of (b ∷ bytes) = if b == 10 then (b ∷ []) ∷ lines_of bytes else onto b (lines_of bytes)

-- the fields of a line, between its spaces
unfoldable pub fields_of : List ℕ → List Bytes
fields_of [] = [] ∷ []
fields_of (b ∷ bytes) = if b == 32 then [] ∷ fields_of bytes else onto b (fields_of bytes)

-- what the further fields add to the line
abbrev pub spaced : List Bytes → List ℕ
spaced [] = []
spaced (f ∷ fs) = 32 ∷ (f ++ spaced fs)

-- the pieces joined
abbrev pub concat : List Bytes → Bytes
concat [] = []
concat (p ∷ ps) = p ++ concat ps

-- the line that has these fields
abbrev pub line_with : List Bytes → Bytes
line_with [] = 10 ∷ []
line_with (f ∷ fs) = (f ++ spaced fs) ++ 10 ∷ []

-- nothing, if nothing follows
abbrev pub at_end : List ℕ → Option Bytes
at_end [] = Some []
at_end (b ∷ bytes) = None

-- the line without its line feed, if it has one and ends with it
unfoldable pub whole_line : Bytes → Option Bytes
whole_line [] = None
whole_line (b ∷ bytes) = if b == 10 then at_end bytes else option_map (λ l. b ∷ l) (whole_line bytes)

-- what the fields of the line are read as, if it is a whole line
unfoldable pub by_fields : {X : Type 0} → (List Bytes → Option X) → Bytes → Option X
by_fields parse piece = option_and_then (λ l. parse (fields_of l)) (whole_line piece)
