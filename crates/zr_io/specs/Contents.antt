-- What a shelf holds.
use Rattle.std.specs.Prelude.{◌≡◌, ℕ, ◌<◌, List, [], ◌∷◌, length, Option, Some, None, map, String, string_bytes, Vec, if◌then◌else◌}
use Rattle.std.specs.Str.{bytes_eq}
use Rattle.std.specs.declared.alloc.Global.{Global}

-- a text or a content
abbrev pub Bytes : Type 0
Bytes = List ℕ

-- the contents by name, where a shelf tells them: what a name holds, if it holds anything
abbrev pub Contents : Type 0
Contents = Option (Bytes → Option Bytes)

-- the name holds more bytes than the limit
abbrev pub HoldsMore : (Bytes → Option Bytes) → Bytes → ℕ → Type 0
HoldsMore get name limit = (v : Bytes) × (get name ≡ Some v) × (limit < length v)

-- the content of the first item with this name
abbrev pub look_up : List (Bytes × Bytes) → Bytes → Option Bytes
look_up [] name = None
look_up (item ∷ items) name = if bytes_eq item.0 name then Some item.1 else look_up items name

-- names and contents, as bytes
abbrev pub pairs_of : List (String Global × Vec ℕ Global) → List (Bytes × Bytes)
pairs_of = map (λ item. (string_bytes item.0, item.1.items))
