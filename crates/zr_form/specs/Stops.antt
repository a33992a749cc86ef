-- What a reader of lines gives, said of two readings: the strict one, and the loose one, in which numbers have no upper bounds.
use Rattle.std.specs.Prelude.{◌≡◌, ℕ, ◌<◌, List, length, Bool, true, false, Option, Some, None, IsSome, Result, Ok, Err}
use Rattle.std.proofs.Common.{Bor}
use Rattle.zr_form.specs.declared.fault.ReadError.{ReadError}
use Rattle.zr_form.specs.declared.fault.ReadError.TheVariants as errors
use Rattle.zr_form.specs.declared.fault.LineFault.{LineFault}
use Rattle.zr_form.specs.declared.fault.LineFault.TheVariants as faults
use Rattle.zr_form.specs.Reading.{Bytes}
use Rattle.zr_form.specs.Lines.{lines_of, concat}
use Rattle.zr_form.specs.Code.{line_cut}

-- the reading goes on past the place where `ls` is left
abbrev pub IsBeyond : {Y : Type 0} → List Bytes → Result (Y × List Bytes) (List Bytes) → Type 0
IsBeyond ls (Ok x) = length x.1 < length ls
IsBeyond ls (Err far) = length far < length ls

-- reading stopped before a line, with so many bytes left; where a number's size alone is at fault, the loose reading goes on; memory may run out at any place
abbrev pub Stopped : {Y : Type 0} → ReadError → Result (Y × List Bytes) (List Bytes) → Result (Y × List Bytes) (List Bytes) → Type 0
Stopped errors.NoMemory strict loose = Unit {0}
Stopped (errors.Form n) strict loose = (ls : List Bytes) × (strict ≡ Err ls) × (loose ≡ Err ls) × (n ≡ length (concat ls))
Stopped (errors.Number n) strict loose = (ls : List Bytes) × (strict ≡ Err ls) × IsBeyond ls loose × (n ≡ length (concat ls))

-- what was read, and the lines that are left of the text
abbrev pub Gives : {X Y : Type 0} → (X → Y) → Result (X × Bor (List ℕ)) ReadError → Result (Y × List Bytes) (List Bytes) → Result (Y × List Bytes) (List Bytes) → Type 0
Gives view (Ok x) strict loose = (strict ≡ Ok (view x.0, lines_of x.1.now)) × (loose ≡ Ok (view x.0, lines_of x.1.now))
Gives view (Err e) strict loose = Stopped e strict loose

-- what was read of one line
abbrev pub ReadsLine : {X Y : Type 0} → (X → Y) → Result X LineFault → Option Y → Option Y → Type 0
ReadsLine view (Ok x) strict loose = (strict ≡ Some (view x)) × (loose ≡ Some (view x))
ReadsLine view (Err faults.Form) strict loose = (strict ≡ None) × (loose ≡ None)
ReadsLine view (Err faults.Number) strict loose = (strict ≡ None) × IsSome loose

-- what is wrong with a line out of the form, by whether the loose reading reads it
abbrev pub fault_of : Bool → LineFault
fault_of true = faults.Number
fault_of false = faults.Form

-- the error at a line with this fault, with so many bytes left
abbrev pub error_at : LineFault → ℕ → ReadError
error_at faults.Form left = errors.Form left
error_at faults.Number left = errors.Number left

-- the line at the front and what follows it, or there is none, and the text is out of form where it begins
abbrev pub IsFirstLine : Bytes → Result (Bor (List ℕ) × Bor (List ℕ)) ReadError → Type 0
IsFirstLine bytes (Ok cut) = Some (cut.0.now, cut.1.now) ≡ line_cut bytes
IsFirstLine bytes (Err e) = (None ≡ line_cut bytes) × (e ≡ errors.Form (length bytes))

-- what was read of a line, or its fault with its place
abbrev pub placed_fault : {X : Type 0} → ℕ → Result X LineFault → Result X ReadError
placed_fault left (Ok x) = Ok x
placed_fault left (Err fault) = Err (error_at fault left)
