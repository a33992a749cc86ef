-- Rows and pairs over the variables of a player and its followers.
use Rattle.std.specs.Prelude.{ℕ, ◌||◌, nat_le, ℤ, pos, neg_ℤ, Bool, false, List, [], ◌∷◌, ◌++◌, is_some, slice_get, Option, Some, None, Ok, codes, if◌then◌else◌}
use Rattle.std.specs.List.{sum_by}
use Rattle.std.specs.Ordering.{int_eq}
use Rattle.serde_json.specs.Data.{Data}
use Rattle.serde_json.specs.Find.{get}
use Rattle.zr_base.specs.Terms.{Terms}
use Rattle.zr_base.specs.Rows.{RowOf}
use Rattle.zr_game.specs.Players.{Name, VarOf, PairOf}
use Rattle.zr_value.specs.declared.fault.GameFault.TheVariants.{Missing, Twice, Count, PairLow}
use Rattle.zr_value.specs.Faults.{Read, fault, under, ◌>>=◌}
use Rattle.zr_value.specs.Values.{number_in, object_in, items_in, needed, optional, listed, each}
use Rattle.zr_value.specs.Names.{known_in}
use Rattle.zr_value.specs.Terms.{terms_in, opposite}
use Rattle.zr_value.specs.declared.format.GameFormat.{GameFormat}
use Rattle.zr_value.specs.declared.format.GameFormat.TheVariants.{First, Second}
use Rattle.zr_value.specs.Formats.{since_second}

-- ---- rows

-- `sum ≤ z`
abbrev pub at_most : Terms → ℤ → RowOf
at_most terms z = record { coef = terms; le = z }

-- `sum ≥ z`, as a row of the other form
abbrev pub at_least : Terms → ℤ → RowOf
at_least terms z = record { coef = opposite terms; le = neg_ℤ z }

-- a right side of a row, which may have one alone
abbrev pub side_in : Bool → Data → Read (Option ℤ)
side_in has_one d = do
  z ← number_in d
  if has_one then fault Twice else Ok (Some z)

-- the rows of the right sides `le`, `ge` and `eq`
abbrev pub rows_of : Terms → Option ℤ → Option ℤ → Option ℤ → Read (List RowOf)
rows_of terms (Some z) ge eq = Ok (at_most terms z ∷ [])
rows_of terms None (Some z) eq = Ok (at_least terms z ∷ [])
rows_of terms None None (Some z) = Ok (at_most terms z ∷ at_least terms z ∷ [])
rows_of terms None None None = under (codes "le") (fault Missing)

-- the row of an object, or the two that `eq` stands for
abbrev pub row_in : GameFormat → List Name → Data → Read (List RowOf)
row_in f names d = do
  o ← object_in d
  terms ← needed (codes "terms") (terms_in names) d
  le ← optional (codes "le") None (side_in false) d
  ge ← since_second f (codes "ge") None (side_in (is_some le)) d
  eq ← since_second f (codes "eq") None (side_in (is_some le || is_some ge)) d
  rows_of terms le ge eq

abbrev pub add_rows : GameFormat → List Name → List RowOf → Data → Read (List RowOf)
add_rows f names before d = do
  rows ← row_in f names d
  Ok (before ++ rows)

-- how many rows an item of the list counts for: two where it has a member `eq`
abbrev pub row_count : GameFormat → Data → ℕ
row_count First d = 1
row_count Second d = if is_some (get (codes "eq") d) then 2 else 1

-- at most so many rows
abbrev pub rows_in : GameFormat → ℕ → List Name → Data → Read (List RowOf)
rows_in f most names d = do
  ds ← items_in d
  if nat_le (sum_by (row_count f) ds) most then each (add_rows f names) 0 [] ds else fault Count

-- ---- pairs

abbrev pub is_zero : Option ℤ → Bool
is_zero None = false
is_zero (Some z) = int_eq z (pos 0)

-- a variable that is there and has the lower bound 0
abbrev pub is_from_zero : Option VarOf → Bool
is_from_zero None = false
is_from_zero (Some var) = is_zero var.low

-- the variable of a pair, of variables with these names
abbrev pub pair_variable_in : List Name → List VarOf → Data → Read ℕ
pair_variable_in names vars d = do
  v ← known_in names d
  if is_from_zero (slice_get vars v) then Ok v else fault PairLow

abbrev pub pair_in : List Name → List VarOf → Data → Read PairOf
pair_in names vars d = do
  o ← object_in d
  v ← needed (codes "var") (pair_variable_in names vars) d
  terms ← needed (codes "terms") (terms_in names) d
  add ← needed (codes "add") number_in d
  Ok (record { var = v; coef = terms; add = add })

abbrev pub add_pair : List Name → List VarOf → List PairOf → Data → Read (List PairOf)
add_pair names vars before d = do
  p ← pair_in names vars d
  Ok (before ++ p ∷ [])

abbrev pub pairs_in : List Name → List VarOf → Data → Read (List PairOf)
pairs_in names vars d = do
  ds ← listed 0 32 d
  each (add_pair names vars) 0 [] ds
