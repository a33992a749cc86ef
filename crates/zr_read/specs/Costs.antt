-- The costs of a player: own terms, cross terms and terms in the others' variables.
use Rattle.std.specs.Prelude.{ℕ, ◌==◌, nat_lt, ℤ, List, [], ◌++◌, map, filter, length, Some, None, Ok, codes, if◌then◌else◌}
use Rattle.std.specs.Ordering.{nat_cmp, ordering_then}
use Rattle.std.specs.declared.cmp.Ordering.{Ordering}
use Rattle.std.specs.BTreeMap.{insert_entry}
use Rattle.serde_json.specs.Data.{Data}
use Rattle.zr_base.specs.Terms.{Terms}
use Rattle.zr_game.specs.declared.player.CrossTerm.{CrossTerm}
use Rattle.zr_game.specs.declared.player.Other.{Other}
use Rattle.zr_game.specs.Players.{Name}
use Rattle.zr_game.specs.Forms.{place_order}
use Rattle.zr_value.specs.declared.fault.GameFault.TheVariants.{Kind, Twice, OwnCross}
use Rattle.zr_value.specs.Faults.{Read, fault, ◌>>=◌}
use Rattle.zr_value.specs.Values.{items_in, optional, part, listed, tuple, each}
use Rattle.zr_value.specs.Names.{known_in, names_at}
use Rattle.zr_value.specs.Terms.{taken, is_term, terms_in}
use Rattle.zr_value.specs.declared.format.Aim.{Aim}
use Rattle.zr_value.specs.Formats.{aimed, cost_number_in}

-- ---- cross terms

-- an own variable, another player and a variable of that player
abbrev pub Triple : Type 0
Triple = ℕ × ℕ × ℕ

abbrev pub triple_order : Triple → Triple → Ordering
triple_order x y =
    ordering_then (ordering_then (nat_cmp x.0 y.0) (nat_cmp x.1 y.1)) (nat_cmp x.2 y.2)

-- the number of another player than i
abbrev pub other_player_in : List Name → ℕ → Data → Read ℕ
other_player_in players i d = do
  j ← known_in players d
  if j == i then fault OwnCross else Ok j

-- a variable of player j, where own, j and it have no number yet
abbrev pub other_variable_in : List Name → ℕ → ℕ → List (Triple × ℤ) → Data → Read ℕ
other_variable_in names own j before d = do
  v ← known_in names d
  if taken triple_order before (own, j, v) then fault Twice else Ok v

-- with one cross term of player i more, at its place
abbrev pub add_cross : List Name → List (List Name) → ℕ → Aim → List (Triple × ℤ) → Data
    → Read (List (Triple × ℤ))
add_cross players variables i aim before d = do
  four ← tuple 4 d
  own ← part 0 (known_in (names_at variables i)) d
  j ← part 1 (other_player_in players i) d
  v ← part 2 (other_variable_in (names_at variables j) own j before) d
  z ← part 3 (cost_number_in aim) d
  Ok (insert_entry triple_order before (own, j, v) z)

abbrev pub cross_of : Triple × ℤ → CrossTerm
cross_of t = record { own = t.0.0; player = t.0.1; var = t.0.2; coef = t.1 }

-- at most so many cross terms of player i, in their order, without zeros
abbrev pub cross_in : ℕ → List Name → List (List Name) → ℕ → Aim → Data → Read (List CrossTerm)
cross_in most players variables i aim d = do
  ds ← listed 0 most d
  all ← each (add_cross players variables i aim) 0 [] ds
  Ok (map cross_of (filter is_term all))

-- ---- terms in the others' variables

-- a player and a variable of that player
abbrev pub Place : Type 0
Place = ℕ × ℕ

abbrev pub Places : Type 0
Places = Place × Place

abbrev pub places_order : Places → Places → Ordering
places_order a b = ordering_then (place_order a.0 b.0) (place_order a.1 b.1)

-- two places, that of the lower player first
abbrev pub in_order : Place → Place → Places
in_order a b = if nat_lt a.0 b.0 then (a, b) else (b, a)

-- numbers of single variables, and of products of two
pub record OthersOf : Type 0 where
  pub singles : List (Place × ℤ)
  pub products : List (Places × ℤ)

abbrev pub no_others : OthersOf
no_others = record { singles = []; products = [] }

-- a variable of player j that has no number yet
abbrev pub single_variable_in : List Name → ℕ → List (Place × ℤ) → Data → Read ℕ
single_variable_in names j before d = do
  v ← known_in names d
  if taken place_order before (j, v) then fault Twice else Ok v

-- with one term in one variable more, for player i
abbrev pub add_single : List Name → List (List Name) → ℕ → Aim → List (Place × ℤ) → Data
    → Read (List (Place × ℤ))
add_single players variables i aim before d = do
  j ← part 0 (other_player_in players i) d
  v ← part 1 (single_variable_in (names_at variables j) j before) d
  z ← part 2 (cost_number_in aim) d
  Ok (insert_entry place_order before (j, v) z)

-- the number of another player than i and the first one
abbrev pub second_player_in : List Name → ℕ → ℕ → Data → Read ℕ
second_player_in players i first d = do
  j ← other_player_in players i d
  if j == first then fault OwnCross else Ok j

-- a variable of player j that has no number yet together with the first one
abbrev pub second_variable_in : List Name → Place → ℕ → List (Places × ℤ) → Data → Read ℕ
second_variable_in names first j before d = do
  v ← known_in names d
  if taken places_order before (in_order first (j, v)) then fault Twice else Ok v

-- with one product more, for player i
abbrev pub add_product : List Name → List (List Name) → ℕ → Aim → List (Places × ℤ) → Data
    → Read (List (Places × ℤ))
add_product players variables i aim before d = do
  j ← part 0 (other_player_in players i) d
  v ← part 1 (known_in (names_at variables j)) d
  k ← part 2 (second_player_in players i j) d
  w ← part 3 (second_variable_in (names_at variables k) (j, v) k before) d
  z ← part 4 (cost_number_in aim) d
  Ok (insert_entry places_order before (in_order (j, v) (k, w)) z)

abbrev pub with_singles : OthersOf → List (Place × ℤ) → Read OthersOf
with_singles before singles = Ok (record { singles = singles; products = before.products })

abbrev pub with_products : OthersOf → List (Places × ℤ) → Read OthersOf
with_products before products = Ok (record { singles = before.singles; products = products })

-- a term of three parts has one variable, and one of five parts two
abbrev pub add_other : List Name → List (List Name) → ℕ → Aim → OthersOf → Data → Read OthersOf
add_other players variables i aim before d = do
  ds ← items_in d
  if length ds == 3 then add_single players variables i aim before.singles d >>= with_singles before
      else (if length ds == 5
      then add_product players variables i aim before.products d >>= with_products before
      else fault Kind)

abbrev pub single_of : Place × ℤ → Other
single_of t = record { first = t.0; second = None; coef = t.1 }

abbrev pub product_of : Places × ℤ → Other
product_of t = record { first = t.0.0; second = Some t.0.1; coef = t.1 }

-- the terms of player i, those in one variable first, without zeros
abbrev pub others_in : List Name → List (List Name) → ℕ → Aim → Data → Read (List Other)
others_in players variables i aim d = do
  ds ← listed 0 65536 d
  all ← each (add_other players variables i aim) 0 no_others ds
  Ok (map single_of (filter is_term all.singles) ++ map product_of (filter is_term all.products))

-- ---- all costs

-- what player i has to pay
pub record CostsOf : Type 0 where
  pub cost : Terms
  pub cross : List CrossTerm
  pub others : List Other

abbrev pub costs_in : ℕ → List Name → List (List Name) → ℕ → Aim → Data → Read CostsOf
costs_in most players variables i aim d = do
  cost ← optional (codes "cost") [] (terms_in (names_at variables i)) d
  cross ← optional (codes "cross") [] (cross_in most players variables i aim) d
  others ← optional (codes "others") [] (others_in players variables i aim) d
  Ok (record { cost = aimed aim cost; cross = cross; others = others })
