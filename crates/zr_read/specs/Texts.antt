-- What the bytes of a game's text stand for.
use Rattle.std.specs.Prelude.{◌≡◌, ℕ, List, [], Some, Ok, Err, string_bytes, IsUtf8, ◌⊎◌}
use Rattle.serde_json.specs.Data.{Data}
use Rattle.serde_json.specs.Read.{read}
use Rattle.zr_source.specs.Sources.{SourceOf, leaders_of}
use Rattle.zr_source.specs.declared.source.Source.{Source}
use Rattle.zr_value.specs.declared.fault.GameFault.{GameFault}
use Rattle.zr_value.specs.declared.fault.GameFault.TheVariants.{NotJson}
use Rattle.zr_value.specs.declared.fault.GameError.{GameError}
use Rattle.zr_value.specs.declared.fault.GameError.TheVariants.{At, NoMemory}
use Rattle.zr_read.specs.Passes.{source_in}

-- the list of a source's leaders
abbrev pub source_of : Source → SourceOf
source_of source = leaders_of source.leaders.items

-- the bytes are the JSON text of the value
abbrev pub IsTextOf : List ℕ → Data → Type 0
IsTextOf bytes value = IsUtf8 bytes × (read bytes ≡ Some value)

-- the bytes are the JSON text of a value in which this source stands
pub record StandsFor (bytes : List ℕ) (source : SourceOf) : Type 0 where
  pub value : Data
  pub text : IsTextOf bytes value
  pub content : source_in value ≡ Ok source

-- the bytes are the JSON text of a value whose first fault this is
pub record HasFault (bytes : List ℕ) (kind : GameFault) (path : List ℕ) : Type 0 where
  pub value : Data
  pub text : IsTextOf bytes value
  pub fault : source_in value ≡ Err (record { kind = kind; path = path })

-- the bytes are no JSON text
pub record IsNotJson (bytes : List ℕ) (kind : GameFault) (path : List ℕ) : Type 0 where
  pub no_text : (value : Data) → IsTextOf bytes value → ⊥
  pub named : kind ≡ NotJson
  pub at_top : path ≡ []

-- the first fault of the text: it is no JSON, or its value has a fault
abbrev pub HasFirstFault : List ℕ → GameFault → List ℕ → Type 0
HasFirstFault bytes kind path = IsNotJson bytes kind path ⊎ HasFault bytes kind path

-- why a text is not read: its first fault, or want of memory
abbrev pub IsRefusal : List ℕ → GameError → Type 0
IsRefusal bytes (At what path) = HasFirstFault bytes what (string_bytes path)
IsRefusal bytes NoMemory = Unit {0}
