-- A player's own variables.
use Rattle.std.specs.Prelude.{ℤ, pos, neg_ℤ, false, List, [], ◌∷◌, ◌++◌, map, Option, Some, None, Ok, codes}
use Rattle.serde_json.specs.Data.{Data, null, boolean, number, string, array, object}
use Rattle.zr_game.specs.Players.{Name, VarOf}
use Rattle.zr_game.specs.Forms.{number_limit}
use Rattle.zr_source.specs.Names.{var_name}
use Rattle.zr_value.specs.Faults.{Read, ◌>>=◌}
use Rattle.zr_value.specs.Values.{whole_in, truth_in, object_in, needed, optional, listed, each}
use Rattle.zr_value.specs.Names.{new_name_in}
use Rattle.zr_value.specs.declared.format.GameFormat.{GameFormat}
use Rattle.zr_value.specs.Formats.{since_second}

-- a bound from `least` on
abbrev pub bound_in : ℤ → Data → Read (Option ℤ)
bound_in least d = do
  z ← whole_in least d
  Ok (Some z)

-- a lower bound, or `null` for none
abbrev pub low_in : Data → Read (Option ℤ)
low_in null = Ok None
low_in (boolean b) = bound_in (neg_ℤ number_limit) (boolean b)
low_in (number n) = bound_in (neg_ℤ number_limit) (number n)
low_in (string s) = bound_in (neg_ℤ number_limit) (string s)
low_in (array ds) = bound_in (neg_ℤ number_limit) (array ds)
low_in (object ms) = bound_in (neg_ℤ number_limit) (object ms)

-- the least upper bound over this lower one
abbrev pub least_up : Option ℤ → ℤ
least_up None = neg_ℤ number_limit
least_up (Some low) = low

-- the variable of a name
abbrev pub variable_named : GameFormat → Name → Data → Read VarOf
variable_named f name d = do
  whole ← optional (codes "int") false truth_in d
  low ← since_second f (codes "low") (Some (pos 0)) low_in d
  up ← optional (codes "up") None (bound_in (least_up low)) d
  Ok (record { name = name; whole = whole; low = low; up = up })

-- a variable after those of these names
abbrev pub variable_in : GameFormat → List Name → Data → Read VarOf
variable_in f before d = do
  o ← object_in d
  name ← needed (codes "name") (new_name_in before) d
  variable_named f name d

abbrev pub add_variable : GameFormat → List VarOf → Data → Read (List VarOf)
add_variable f before d = do
  v ← variable_in f (map var_name before) d
  Ok (before ++ v ∷ [])

abbrev pub variables_in : GameFormat → Data → Read (List VarOf)
variables_in f d = do
  ds ← listed 1 64 d
  each (add_variable f) 0 [] ds
