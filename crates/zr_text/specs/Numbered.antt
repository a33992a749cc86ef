-- The lines of a text by their numbers, counted from 1.
use Rattle.std.specs.Prelude.{◌≡◌, ℕ, zero, suc, ◌+◌, Option, Some, None, List, slice_get}
use Rattle.zr_form.specs.Lines.{lines_of}
use Rattle.zr_form.specs.Reading.{Bytes}

-- line n, if the text has so many
abbrev pub line_at : Bytes → ℕ → Option Bytes
line_at bytes zero = None
line_at bytes (suc n) = slice_get (lines_of bytes) n

-- these lines stand in the text one after another, the first of them at line n
abbrev pub StandFrom : Bytes → ℕ → List Bytes → Type 0
StandFrom bytes n lines =
    (k : ℕ) (line : Bytes) → slice_get lines k ≡ Some line → line_at bytes (n + k) ≡ Some line
