-- A line at the front of a text, and what is read of it, with the place of its fault.
use Rattle.std.proofs.Common.{◌≡◌, ◌<◌, ℕ, List, length, Option, Some, Result, Ok, Err, subst}
use Rattle.zr_form.specs.declared.fault.ReadError.{ReadError}
use Rattle.zr_form.specs.declared.fault.LineFault.{LineFault}
use Rattle.zr_form.specs.Lines.{by_fields, fields_of, lines_of}
use Rattle.zr_form.specs.Reading.{Bytes, items_read, one_read}
use Rattle.zr_form.specs.Stops.{IsFirstLine, ReadsLine, Stopped, error_at, placed_fault}
use Rattle.zr_form.proofs.Walking.{Line, line_missing}
use Rattle.zr_form.proofs.Composing.{BothSoFar, Reading, items_line_absent, items_line_bad, line_absent, line_bad}

-- where there is no line
pub first_stops : {X : Type 0} (parse loose : List Bytes → Option X) (bytes : Bytes) (e : ReadError)
    → IsFirstLine bytes (Err e)
    → Stopped e (one_read (by_fields parse) (lines_of bytes)) (one_read (by_fields loose) (lines_of bytes))
first_stops parse loose bytes e h =
    rw h.1 (line_absent parse loose bytes (line_missing bytes h.0))

-- what was read of the line
pub placed_reads : {X Y : Type 0} (view : X → Y) (strict loose : Option Y) (left : ℕ)
    → (read : Result X LineFault) (x : X) → ReadsLine view read strict loose
    → Ok x ≡ placed_fault left read → (strict ≡ Some (view x)) × (loose ≡ Some (view x))
placed_reads {X = X} view strict loose left (Ok y) x h e =
    let same : y ≡ x = cc in
    subst (λ (z : X). (strict ≡ Some (view z)) × (loose ≡ Some (view z))) same h
placed_reads view strict loose left (Err fault) x h e = absurd cc

-- a fault of the line
pub placed_stops : {X Y : Type 0} (view : X → Y) (parse loose : List Bytes → Option Y)
    → (bytes l r : Bytes) (read : Result X LineFault) (e : ReadError) → Line bytes l r
    → ReadsLine view read (parse (fields_of l)) (loose (fields_of l))
    → Err e ≡ placed_fault (length bytes) read
    → Stopped e (one_read (by_fields parse) (lines_of bytes)) (one_read (by_fields loose) (lines_of bytes))
placed_stops view parse loose bytes l r (Ok x) e line h is = absurd cc
placed_stops view parse loose bytes l r (Err fault) e line h is =
    let same : e ≡ error_at fault (length bytes) = cc in
    rw same (line_bad view parse loose bytes l r fault line h)

-- the same where items are due
pub items_first_stops : {X : Type 0} (parse loose : List Bytes → Option X) (more : X → ℕ)
    → (front : List X) (bytes : Bytes) (due : ℕ) (e : ReadError) (whole loose_whole : Reading (List X))
    → IsFirstLine bytes (Err e) → 0 < due
    → BothSoFar front (items_read (by_fields parse) more (lines_of bytes) due)
    (items_read (by_fields loose) more (lines_of bytes) due) whole loose_whole
    → Stopped e whole loose_whole
items_first_stops parse loose more front bytes due e whole loose_whole h positive so_far =
    rw h.1 (items_line_absent parse loose more front bytes due whole loose_whole
    (line_missing bytes h.0) positive so_far)

pub items_placed_stops : {X Y : Type 0} (view : X → Y) (parse loose : List Bytes → Option Y)
    → (more : Y → ℕ) (front : List Y) (bytes l r : Bytes) (due : ℕ) (read : Result X LineFault)
    → (e : ReadError) (whole loose_whole : Reading (List Y)) → Line bytes l r → 0 < due
    → ReadsLine view read (parse (fields_of l)) (loose (fields_of l))
    → Err e ≡ placed_fault (length bytes) read
    → BothSoFar front (items_read (by_fields parse) more (lines_of bytes) due)
    (items_read (by_fields loose) more (lines_of bytes) due) whole loose_whole
    → Stopped e whole loose_whole
items_placed_stops view parse loose more front bytes l r due (Ok x) e whole loose_whole line positive h is so_far =
    absurd cc
items_placed_stops view parse loose more front bytes l r due (Err fault) e whole loose_whole line positive h is so_far =
    let same : e ≡ error_at fault (length bytes) = cc in
    rw same (items_line_bad view parse loose more front bytes l r due fault whole loose_whole
    line positive h so_far)
