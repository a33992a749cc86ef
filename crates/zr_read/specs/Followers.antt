-- The followers of a player: in the first pass their variables, in the second what they want.
use Rattle.std.specs.Prelude.{ℕ, ◌+◌, ◌-◌, ◌&&◌, nat_le, nat_lt, ℤ, pos, Bool, false, List, [], ◌∷◌, ◌++◌, map, filter, length, Some, None, Ok, codes, if◌then◌else◌}
use Rattle.std.specs.BTreeMap.{insert_entry}
use Rattle.serde_json.specs.Data.{Data}
use Rattle.zr_game.specs.Players.{Name, VarOf}
use Rattle.zr_game.specs.Forms.{place_order}
use Rattle.zr_source.specs.Sources.{FollowerOf}
use Rattle.zr_source.specs.Names.{var_name}
use Rattle.zr_value.specs.declared.fault.GameFault.TheVariants.{UnknownName, OwnCross, Twice, Count}
use Rattle.zr_value.specs.Faults.{Read, fault, ◌>>=◌}
use Rattle.zr_value.specs.Values.{object_in, items_in, needed, optional, part, listed, tuple, each}
use Rattle.zr_value.specs.Names.{new_name_in, known_in}
use Rattle.zr_value.specs.Terms.{taken, is_term, terms_in}
use Rattle.zr_value.specs.declared.format.GameFormat.{GameFormat}
use Rattle.zr_value.specs.declared.format.Aim.{Aim}
use Rattle.zr_value.specs.Formats.{aim_of_in, aimed, cost_number_in}
use Rattle.zr_read.specs.Rows.{rows_in}
use Rattle.zr_read.specs.Costs.{Place}

-- ---- the first pass

-- a follower's value, and which of the leader's variables are its own: count of them, from first on
pub record FollowerHeadingOf : Type 0 where
  pub first : ℕ
  pub count : ℕ
  pub value : Data

-- a leader's variables, and its followers
pub record MembersOf : Type 0 where
  pub vars : List VarOf
  pub followers : List FollowerHeadingOf

-- a follower's variable: continuous, from 0 on, without an upper bound
abbrev pub free_variable : Name → VarOf
free_variable name = record { name = name; whole = false; low = Some (pos 0); up = None }

abbrev pub add_free : List VarOf → Data → Read (List VarOf)
add_free before d = do
  name ← new_name_in (map var_name before) d
  Ok (before ++ free_variable name ∷ [])

-- these variables, and then those of the names in a list
abbrev pub free_in : List VarOf → Data → Read (List VarOf)
free_in before d = do
  ds ← items_in d
  each add_free 0 before ds

abbrev pub add_follower_heading : MembersOf → Data → Read MembersOf
add_follower_heading before d = do
  o ← object_in d
  vars ← needed (codes "vars") (free_in before.vars) d
  Ok (record {
    vars = vars;
    followers = before.followers ++ (record {
      first = length before.vars;
      count = length vars - length before.vars;
      value = d;
    }) ∷ [];
  })

-- a leader with these variables of its own
abbrev pub alone : List VarOf → MembersOf
alone vars = record { vars = vars; followers = [] }

-- at most 16 followers, and at most 64 variables together with the leader's own
abbrev pub follower_headings_in : List VarOf → Data → Read MembersOf
follower_headings_in own d = do
  ds ← listed 0 16 d
  all ← each add_follower_heading 0 (alone own) ds
  if nat_le (length all.vars) 64 then Ok all else fault Count

-- ---- the second pass

abbrev pub is_own : FollowerHeadingOf → ℕ → Bool
is_own h v = nat_le h.first v && nat_lt v (h.first + h.count)

-- one of the follower's own variables
abbrev pub own_variable_in : List Name → FollowerHeadingOf → Data → Read ℕ
own_variable_in names h d = do
  v ← known_in names d
  if is_own h v then Ok v else fault UnknownName

-- another variable of the leader, which has no number yet with own
abbrev pub given_variable_in : List Name → FollowerHeadingOf → ℕ → List (Place × ℤ) → Data → Read ℕ
given_variable_in names h own before d = do
  v ← known_in names d
  if is_own h v then fault OwnCross
      else (if taken place_order before (own, v) then fault Twice else Ok v)

-- with one cross term of the follower more, at its place
abbrev pub add_follower_cross : List Name → FollowerHeadingOf → Aim → List (Place × ℤ) → Data
    → Read (List (Place × ℤ))
add_follower_cross names h aim before d = do
  three ← tuple 3 d
  own ← part 0 (own_variable_in names h) d
  v ← part 1 (given_variable_in names h own before) d
  z ← part 2 (cost_number_in aim) d
  Ok (insert_entry place_order before (own, v) z)

abbrev pub follower_cross_of : Place × ℤ → ℕ × ℕ × ℤ
follower_cross_of t = (t.0.0, t.0.1, t.1)

-- the cross terms of the follower in their order, without zeros
abbrev pub follower_cross_in : List Name → FollowerHeadingOf → Aim → Data → Read (List (ℕ × ℕ × ℤ))
follower_cross_in names h aim d = do
  ds ← listed 0 65536 d
  all ← each (add_follower_cross names h aim) 0 [] ds
  Ok (map follower_cross_of (filter is_term all))

-- a follower of a leader with variables of these names
abbrev pub follower_in : GameFormat → List Name → FollowerHeadingOf → Read FollowerOf
follower_in f names h = do
  aim ← aim_of_in f h.value
  rows ← optional (codes "rows") [] (rows_in f 32 names) h.value
  cost ← optional (codes "cost") [] (terms_in names) h.value
  cross ← optional (codes "cross") [] (follower_cross_in names h aim) h.value
  Ok (record {
    first = h.first;
    count = h.count;
    rows = rows;
    cost = aimed aim cost;
    cross = cross;
  })

abbrev pub add_follower : GameFormat → List Name → List FollowerOf → FollowerHeadingOf
    → Read (List FollowerOf)
add_follower f names before h = do
  follower ← follower_in f names h
  Ok (before ++ follower ∷ [])

abbrev pub followers_in : GameFormat → List Name → List FollowerHeadingOf → Read (List FollowerOf)
followers_in f names hs = each (add_follower f names) 0 [] hs
