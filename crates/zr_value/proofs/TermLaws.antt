-- The terms that are read ascend, are within the limit and aren't zero.
use Rattle.std.proofs.Common.{◌≡◌, ℕ, ◌+◌, ◌<◌, ◌≤◌, ℤ, pos, List, [], ◌∷◌, length, filter, Ok, Option, Some, None, Bool, true, false, arith, position, bytes_eq, cond, subst, refl}
use Rattle.std.specs.Ordering.{nat_cmp}
use Rattle.std.proofs.lemmas.Cmp.{ranked, nat_cmp_total}
use Rattle.std.proofs.lemmas.Int.{ints}
use Rattle.std.specs.BTreeMap.{insert_entry}
use Rattle.std.specs.Prelude.{int_le, ◌&&◌, ◌≤ℤ◌}
use Rattle.std.specs.Ordering.{MatchOrdering}
use Rattle.std.specs.List.{All}
use Rattle.std.proofs.lemmas.List.Elements.{All-nil, All-cons}
use Rattle.std.proofs.lemmas.List.Quantifiers.{position-Some}
use Rattle.serde_json.specs.Data.{Data, unsigned, negative, float, null, boolean, number, string, array, object}
use Rattle.zr_base.specs.Terms.{Terms, AscendWith}
use Rattle.zr_game.specs.Players.{Name}
use Rattle.zr_game.specs.Forms.{number_limit, IsNumber, IsCoefficient, AreTerms}
use Rattle.zr_value.specs.declared.fault.GameFault.TheVariants.{Twice, TooBig}
use Rattle.zr_value.specs.Faults.{Read, fault}
use Rattle.zr_value.specs.Values.{within, whole_in, number_in, tuple, part, each, items_in, name_in}
use Rattle.zr_value.specs.Names.{known_in, found}
use Rattle.zr_value.specs.Terms.{term_variable_in, new_variable, taken, add_term, is_term, opposite, terms_in}
use Rattle.zr_value.proofs.Behind.{bind_ok, guard_ok, part_ok, each_keeps}
use Rattle.zr_value.proofs.Keys.{Before, Ordered, ordered_insert, ordered_filter, coefficient_opposite}

-- a number that was read is within the limit
within_ok : (low z y : ℤ) → within low z ≡ Ok y → (low ≤ℤ y) × (y ≤ℤ number_limit)
within_ok low z y h = by (int_le low z) (int_le z number_limit) refl refl h
  where
    by : (a b : Bool) → int_le low z ≡ a → int_le z number_limit ≡ b
        → (let r : Read ℤ = cond (a && b) (Ok z) (fault TooBig) in r ≡ Ok y)
        → (low ≤ℤ y) × (y ≤ℤ number_limit)
    by true true e f h = let g : z ≡ y = cc in
        subst (λ y. (low ≤ℤ y) × (y ≤ℤ number_limit)) g (omega (arith, ints), omega (arith, ints))
    by true false e f h = absurd (cc)
    by false b e f h = absurd (cc)

pub whole_ok : (low : ℤ) (d : Data) (z : ℤ) → whole_in low d ≡ Ok z
    → (low ≤ℤ z) × (z ≤ℤ number_limit)
whole_ok low (number (unsigned n)) z h = within_ok low (pos n) z h
whole_ok low (number (negative y)) z h = within_ok low y z h
whole_ok low (number (float x)) z h = absurd (cc)
whole_ok low null z h = absurd (cc)
whole_ok low (boolean b) z h = absurd (cc)
whole_ok low (string s) z h = absurd (cc)
whole_ok low (array ds) z h = absurd (cc)
whole_ok low (object ms) z h = absurd (cc)

-- a name that is known has a number below their count
found_ok : (o : Option ℕ) (v : ℕ) → found o ≡ Ok v → o ≡ Some v
found_ok None v h = absurd (cc)
found_ok (Some w) v h = cc

pub known_below : (names : List Name) (d : Data) (v : ℕ) → known_in names d ≡ Ok v
    → v < length names
known_below names d v h =
    let b = bind_ok (name_in d) (λ s. found (position (bytes_eq s) names)) v h in
    (position-Some (bytes_eq b.0) names v []
    (found_ok (position (bytes_eq b.0) names) v b.2)).0

-- ---- terms

-- keys below n that stand in their order are columns that ascend
abbrev StartsFrom : ℕ → Terms → Type 0
StartsFrom low [] = Unit {0}
StartsFrom low (t ∷ ts) = low ≤ t.0

starts_after : (v : ℕ) (ts : Terms) → Before nat_cmp v ts → StartsFrom (v + 1) ts
starts_after v [] b = tt
starts_after v (t ∷ ts) b =
    let r : MatchOrdering (nat_cmp v t.0) (v < t.0) (v ≡ t.0) (t.0 < v) = ranked v t.0 (nat_cmp v t.0) refl in
    let less : v < t.0 = subst (λ o. MatchOrdering o (v < t.0) (v ≡ t.0) (t.0 < v)) b.0 r in
    omega (arith, less)

ascends : (n low : ℕ) (ts : Terms) → StartsFrom low ts
    → Ordered nat_cmp (λ v. v < n) IsCoefficient ts → AscendWith IsCoefficient low n ts
ascends n low [] s o = tt
ascends n low (t ∷ ts) s o =
    (s, o.0, o.1, ascends n (t.0 + 1) ts (starts_after t.0 ts o.2) o.3)

starts_at_zero : (ts : Terms) → StartsFrom 0 ts
starts_at_zero [] = tt
starts_at_zero (t ∷ ts) = omega arith

module _ (names : List Name) where
  abbrev AreKept : Terms → Type 0
  AreKept ts = Ordered nat_cmp (λ v. v < length names) IsNumber ts

  add_keeps : (before : Terms) (d : Data) (after : Terms) → AreKept before
      → add_term names before d ≡ Ok after → AreKept after
  add_keeps before d after a h =
      let two = bind_ok (tuple 2 d) _ after h in
      let var = bind_ok (part 0 (term_variable_in names before) d) _ after two.2 in
      let num = bind_ok (part 1 number_in d) _ after var.2 in
      let at = part_ok 0 (term_variable_in names before) d var.0 var.1 in
      let z = part_ok 1 number_in d num.0 num.1 in
      let kn = bind_ok (known_in names at.0) (new_variable before) var.0 at.1 in
      let new = guard_ok Twice (taken nat_cmp before kn.0) kn.0 var.0 kn.2 in
      let below : var.0 < length names =
      subst (λ v. v < length names) new.1 (known_below names at.0 kn.0 kn.1) in
      let e : insert_entry nat_cmp before var.0 num.0 ≡ after = cc (num.2) in
      subst AreKept e (ordered_insert nat_cmp nat_cmp_total (λ v. v < length names) IsNumber
      before var.0 num.0 below (whole_ok _ z.0 num.0 z.1) a)

  -- terms that are read are terms over the names
  pub terms_are_right : (d : Data) (ts : Terms) → terms_in names d ≡ Ok ts
      → AreTerms (length names) ts
  terms_are_right d ts h =
      let ds = bind_ok (items_in d) _ ts h in
      let all = bind_ok (each (add_term names) 0 [] ds.0) (λ all. Ok (filter is_term all)) ts
      ds.2 in
      let e : filter is_term all.0 ≡ ts = cc (all.2) in
      let kept = ordered_filter nat_cmp (λ v. v < length names) all.0
      (each_keeps AreKept (add_term names) add_keeps 0 [] ds.0 all.0 tt all.1) in
      subst (λ ts. AreTerms (length names) ts) e
      (ascends (length names) 0 (filter is_term all.0) (starts_at_zero (filter is_term all.0)) kept)

-- terms with the other sign are terms
pub opposite_ascends : (low n : ℕ) (ts : Terms) → AscendWith IsCoefficient low n ts
    → AscendWith IsCoefficient low n (opposite ts)
opposite_ascends low n [] a = tt
opposite_ascends low n (t ∷ ts) a =
    (a.0, a.1, coefficient_opposite t.1 a.2, opposite_ascends (t.0 + 1) n ts a.3)

ascend_numbers : (low n : ℕ) (ts : Terms) → AscendWith IsCoefficient low n ts
    → All (λ t. IsNumber t.1) ts
ascend_numbers low n [] a = All-nil (λ t. IsNumber t.1)
ascend_numbers low n (t ∷ ts) a =
    All-cons (λ t. IsNumber t.1) t ts a.2.0 (ascend_numbers (t.0 + 1) n ts a.3)

-- the numbers of terms are within the limit
pub numbers_are_right : (names : List Name) (d : Data) (ts : Terms) → terms_in names d ≡ Ok ts
    → All (λ t. IsNumber t.1) ts
numbers_are_right names d ts h =
    ascend_numbers 0 (length names) ts (terms_are_right names d ts h)
