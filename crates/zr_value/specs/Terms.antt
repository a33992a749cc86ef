-- Terms: numbers by variable, and how numbers are kept by what they belong to.
use Rattle.std.specs.Prelude.{ℕ, not, ℤ, pos, neg_ℤ, List, [], map, filter, is_some, Ok, if◌then◌else◌, Bool}
use Rattle.std.specs.Ordering.{nat_cmp, int_eq}
use Rattle.std.specs.declared.cmp.Ordering.{Ordering}
use Rattle.std.specs.Map.{lookup}
use Rattle.std.specs.BTreeMap.{insert_entry, is_at}
use Rattle.serde_json.specs.Data.{Data}
use Rattle.zr_base.specs.Terms.{Terms}
use Rattle.zr_game.specs.Players.{Name}
use Rattle.zr_value.specs.declared.fault.GameFault.TheVariants.{Twice}
use Rattle.zr_value.specs.Faults.{Read, fault, ◌>>=◌}
use Rattle.zr_value.specs.Values.{number_in, items_in, part, tuple, each}
use Rattle.zr_value.specs.Names.{known_in}

-- ---- numbers by keys

-- the key has a number already
abbrev pub taken : {K : Type 0} → (K → K → Ordering) → List (K × ℤ) → K → Bool
taken order before k = is_some (lookup (is_at (order k)) before)

-- the number isn't 0
abbrev pub is_term : {K : Type 0} → K × ℤ → Bool
is_term t = not (int_eq t.1 (pos 0))

-- the numbers with the other sign
abbrev pub opposite : {K : Type 0} → List (K × ℤ) → List (K × ℤ)
opposite ts = map (λ t. (t.0, neg_ℤ t.1)) ts

-- ---- terms

abbrev pub new_variable : Terms → ℕ → Read ℕ
new_variable before v = if taken nat_cmp before v then fault Twice else Ok v

-- the variable of a term, which has no number yet
abbrev pub term_variable_in : List Name → Terms → Data → Read ℕ
term_variable_in names before d = known_in names d >>= new_variable before

-- with one term more, at its place by variable
abbrev pub add_term : List Name → Terms → Data → Read Terms
add_term names before d = do
  two ← tuple 2 d
  v ← part 0 (term_variable_in names before) d
  z ← part 1 number_in d
  Ok (insert_entry nat_cmp before v z)

-- terms in the order of their variables, without zeros
abbrev pub terms_in : List Name → Data → Read Terms
terms_in names d = do
  ds ← items_in d
  all ← each (add_term names) 0 [] ds
  Ok (filter is_term all)
