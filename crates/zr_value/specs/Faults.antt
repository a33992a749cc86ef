-- A value that stands in a text, or the first fault and where it is.
use Rattle.std.specs.Prelude.{◌≡◌, ℕ, List, [], ◌∷◌, ◌++◌, codes, string_bytes, Result, Ok, Err}
use Rattle.zr_value.specs.declared.fault.GameFault.{GameFault}
use Rattle.zr_value.specs.declared.fault.GameFault.TheVariants.{NotJson, Format, Missing, Kind, NotWhole, TooBig, BadName, Twice, UnknownName, PairLow, OwnCross, Count}
use Rattle.zr_value.specs.declared.fault.GameError.{GameError}
use Rattle.zr_value.specs.declared.fault.GameError.TheVariants.{At, NoMemory}

-- a fault's name as it is spelled
abbrev pub fault_name : GameFault → List ℕ
fault_name NotJson = codes "NotJson"
fault_name Format = codes "Format"
fault_name Missing = codes "Missing"
fault_name Kind = codes "Kind"
fault_name NotWhole = codes "NotWhole"
fault_name TooBig = codes "TooBig"
fault_name BadName = codes "BadName"
fault_name Twice = codes "Twice"
fault_name UnknownName = codes "UnknownName"
fault_name PairLow = codes "PairLow"
fault_name OwnCross = codes "OwnCross"
fault_name Count = codes "Count"

-- a fault, and the path from the value that is read to the one at fault
pub record Fault : Type 0 where
  pub kind : GameFault
  pub path : List ℕ

abbrev pub Read : Type 0 → Type 0
Read A = Result A Fault

-- what was read goes on to the next step, and a fault ends all
infixl 10 ◌>>=◌
abbrev pub ◌>>=◌ : {A B : Type 0} → Read A → (A → Read B) → Read B
Ok x >>= f = f x
Err e >>= f = Err e

-- a fault of the value itself
abbrev pub fault : {A : Type 0} → GameFault → Read A
fault kind = Err (record { kind = kind; path = [] })

-- what is read one step below, at `/step`
abbrev pub under : {A : Type 0} → List ℕ → Read A → Read A
under step (Ok x) = Ok x
under step (Err f) = Err (record { kind = f.kind; path = 47 ∷ step ++ f.path })

-- the error is the first fault, or memory ran out
abbrev pub Says : {A : Type 0} → GameError → Read A → Type 0
Says (At what path) read = read ≡ Err (record { kind = what; path = string_bytes path })
Says NoMemory read = Unit {0}

-- the answer's content is what was to be read, or its error is the first fault, or memory ran out
abbrev pub Reads : {T A : Type 0} → (T → A) → Result T GameError → Read A → Type 0
Reads content (Ok x) read = read ≡ Ok (content x)
Reads content (Err e) read = Says e read

-- this fault at this path, or memory ran out
abbrev pub IsAt : GameFault → List ℕ → GameError → Type 0
IsAt wanted path (At k p) = (k ≡ wanted) × (string_bytes p ≡ path)
IsAt wanted path NoMemory = Unit {0}

-- the error's path has `/step` in front
abbrev pub Longer : List ℕ → GameError → GameError → Type 0
Longer step (At what path) longer = IsAt what (47 ∷ step ++ string_bytes path) longer
Longer step NoMemory longer = longer ≡ NoMemory

-- the same answer, seen from one step above
abbrev pub Placed : {T : Type 0} → List ℕ → Result T GameError → Result T GameError → Type 0
Placed step (Ok x) result = result ≡ Ok x
Placed step (Err e) (Ok x) = ⊥
Placed step (Err e) (Err longer) = Longer step e longer
