-- Names that are given and names that are used.
use Rattle.std.specs.Prelude.{ℕ, Bool, List, position, bytes_eq, slice_index_or, [], Option, Some, None, Ok, if◌then◌else◌}
use Rattle.std.specs.List.{list_any}
use Rattle.serde_json.specs.Data.{Data}
use Rattle.zr_game.specs.Players.{Name}
use Rattle.zr_value.specs.declared.fault.GameFault.TheVariants.{Twice, UnknownName}
use Rattle.zr_value.specs.Faults.{Read, fault, ◌>>=◌}
use Rattle.zr_value.specs.Values.{name_in}

-- one of the names is s
abbrev pub is_among : List Name → Name → Bool
is_among names s = list_any (bytes_eq s) names

-- a name that none of `before` is
abbrev pub new_name_in : List Name → Data → Read Name
new_name_in before d = do
  s ← name_in d
  if is_among before s then fault Twice else Ok s

-- a place that was found
abbrev pub found : Option ℕ → Read ℕ
found (Some v) = Ok v
found None = fault UnknownName

-- the number of a name: its place
abbrev pub known_in : List Name → Data → Read ℕ
known_in names d = do
  s ← name_in d
  found (position (bytes_eq s) names)

-- the names of player j's variables
abbrev pub names_at : List (List Name) → ℕ → List Name
names_at variables j = slice_index_or variables j []
