-- What the uses leave in the rows.
use Rattle.std.proofs.Common.{◌≡◌, ◌⊎◌, inl, inr, ℕ, ◌≤◌, Bool, true, false, ◌&&◌, ◌||◌, List, [], ◌∷◌, ◌++◌, length, take, drop, Option, Some, None, is_some, find, refl, sym, ap, ◌∙◌, subst, bytes_eq, arith, append-nil, true≢false}
use Rattle.std.specs.Prelude.{if◌then◌else◌}
use Rattle.std.proofs.lemmas.Slice.Eq.{bytes_eq-Decides}
use Rattle.clap.specs.Words.{Row, Text, Kinds}
use Rattle.clap.specs.ValueTests.{accepts}
use Rattle.clap.specs.Kinds.{or_else}
use Rattle.clap.specs.Walk.{at_row, has_row, more_values, used}
use Rattle.clap.specs.Faults.{use_fault}
use Rattle.clap.specs.Values.{reading_of, refused_kind}
use Rattle.clap.specs.declared.error.kind.ErrorKind.{ErrorKind}
use Rattle.clap.specs.declared.error.kind.ErrorKind.TheVariants.{ArgumentConflict}
use Rattle.clap.specs.declared.parser.matches.ValueSource.TheVariants.{CommandLine}
use Rattle.clap.specs.declared.builder.value_parser.ValueParser.{ValueParser}
use Rattle.zr_words.specs.Words.{OptionName, Said, text, option, kind_option, budget_option, rounds_option, order_option, option_name, texts_of, values_named}
use Rattle.zr_words.proofs.Rules.{Place, first, second, third, beyond, place_id, Key, text_key, option_key, key_id, key_parser, key_rule}
use Rattle.zr_words.proofs.Steps.{Use, free, use_of, use_then}
use Rattle.zr_words.proofs.Walks.{text_use, run_said}

-- ---- rows by their ids

abbrev pub found : Text → List Row → Option Row
found id rows = find (λ r. bytes_eq r.id id) rows

abbrev pub or_found : Option Row → Option Row → Option Row
or_found (Some r) o = Some r
or_found None o = o

has_found : (id : Text) (rows : List Row) → has_row id rows ≡ is_some (found id rows)
has_found id [] = refl
has_found id (r ∷ rows) = go (bytes_eq r.id id) refl (has_found id rows)
  where
    go : (t : Bool) → bytes_eq r.id id ≡ t → has_row id rows ≡ is_some (found id rows) → has_row id (r ∷ rows) ≡ is_some (found id (r ∷ rows))
    go true e h = rw e refl
    go false e h = rw e h

pub absent : (id : Text) (change : Row → List Row) (missing rows : List Row) → has_row id rows ≡ false → at_row id change missing rows ≡ rows ++ missing
absent id change missing [] e = refl
absent id change missing (r ∷ rows) e = go (bytes_eq r.id id) refl e (absent id change missing rows)
  where
    go : (t : Bool) → bytes_eq r.id id ≡ t → (bytes_eq r.id id || has_row id rows) ≡ false
        → (has_row id rows ≡ false → at_row id change missing rows ≡ rows ++ missing) → at_row id change missing (r ∷ rows) ≡ r ∷ (rows ++ missing)
    go true b h more = let bad : true ≡ false = rw b at h in absurd cc
    go false b h more = let later : has_row id rows ≡ false = rw b at h in rw b (ap (λ (l : List Row). r ∷ l) (more later))

pub found_append : (id : Text) (rows : List Row) (r : Row) → found id (rows ++ r ∷ []) ≡ or_found (found id rows) (if bytes_eq r.id id then Some r else None)
found_append id [] r = refl
found_append id (x ∷ rows) r = go (bytes_eq x.id id) refl (found_append id rows r)
  where
    go : (t : Bool) → bytes_eq x.id id ≡ t → found id (rows ++ r ∷ []) ≡ or_found (found id rows) (if bytes_eq r.id id then Some r else None) → found id (x ∷ (rows ++ r ∷ [])) ≡ or_found (found id (x ∷ rows)) (if bytes_eq r.id id then Some r else None)
    go true e h = rw e refl
    go false e h = rw e h

pub none_found : (id : Text) (rows : List Row) → found id rows ≡ None → has_row id rows ≡ false
none_found id rows e = has_found id rows ∙ ap (λ (o : Option Row). is_some o) e

pub some_found : (id : Text) (rows : List Row) (r : Row) → found id rows ≡ Some r → has_row id rows ≡ false → ⊥
some_found id rows r e h = true≢false (sym (has_found id rows ∙ ap (λ (o : Option Row). is_some o) e) ∙ h)

-- ---- one use

module _ (kinds : ValueParser) where
  abbrev pub new_row : Key → Text → Row
  new_row k v = record {
    id = key_id k;
    values = v ∷ [];
    count = None;
    source = Some CommandLine;
    reading = reading_of (key_parser kinds k);
  }

  abbrev pub accepted : Key → Text → Type 0
  accepted k v = accepts false (key_parser kinds k) v ≡ true

  used_is : (k : Key) (v : Text) (rows : List Row) → has_row (key_id k) rows ≡ false → used (key_rule kinds k) (v ∷ []) rows ≡ rows ++ new_row k v ∷ []
  used_is k v rows e =
      let same : at_row (key_id k) (λ _. []) [] rows ≡ rows = absent (key_id k) (λ _. []) [] rows e ∙ append-nil rows in
      rw same (absent (key_id k) (more_values CommandLine (v ∷ [])) (new_row k v ∷ []) rows e)

  abbrev fault_by : Bool → Bool → ErrorKind → Kinds
  fault_by repeated right x = or_else (if repeated && true then ArgumentConflict ∷ [] else []) (or_else (if right then [] else x ∷ []) [])

  fault_is : (k : Key) (v : Text) (rows : List Row) → use_fault false (key_rule kinds k) (v ∷ []) rows
      ≡ fault_by (has_row (key_id k) rows) (accepts false (key_parser kinds k) v) (refused_kind (key_parser kinds k))
  fault_is k v rows = refl

  pub record IsUsed (u : Use) (rows : List Row) (next : List Row → Option (List Row)) (end : List Row) : Type 0 where
    pub fresh : has_row (key_id u.key) rows ≡ false
    pub right : accepted u.key u.value
    pub more : next (rows ++ new_row u.key u.value ∷ []) ≡ Some end

  pub use_free : (u : Use) (rows : List Row) (next : List Row → Option (List Row)) (end : List Row) → use_then kinds u rows next ≡ Some end → IsUsed u rows next end
  use_free u rows next end h = go (has_row (key_id u.key) rows) refl (accepts false (key_parser kinds u.key) u.value) refl h
    where
      now : List Row
      now = used (key_rule kinds u.key) (u.value ∷ []) rows

      go : (a : Bool) → has_row (key_id u.key) rows ≡ a → (b : Bool) → accepts false (key_parser kinds u.key) u.value ≡ b
          → free (fault_by (has_row (key_id u.key) rows) (accepts false (key_parser kinds u.key) u.value) (refused_kind (key_parser kinds u.key))) (next (used (key_rule kinds u.key) (u.value ∷ []) rows)) ≡ Some end
          → IsUsed u rows next end
      go true e b f k = let bad : None ≡ Some end = rw e at k in absurd cc
      go false e false f k = let bad : None ≡ Some end = rw (e, f) at k in absurd cc
      go false e true f k =
          let some : next (used (key_rule kinds u.key) (u.value ∷ []) rows) ≡ Some end = rw (e, f) at k in
          record { fresh = e; right = f; more = ap next (sym (used_is u.key u.value rows e)) ∙ some }

  pub use_goes : (u : Use) (rows : List Row) (next : List Row → Option (List Row)) → has_row (key_id u.key) rows ≡ false → accepted u.key u.value
      → use_then kinds u rows next ≡ next (rows ++ new_row u.key u.value ∷ [])
  use_goes u rows next e f =
      let fault : use_fault false (key_rule kinds u.key) (u.value ∷ []) rows ≡ [] = fault_is u.key u.value rows ∙ rw (e, f) refl in
      ap (λ (a : Kinds). free a (next (used (key_rule kinds u.key) (u.value ∷ []) rows))) fault ∙ ap next (used_is u.key u.value rows e)

-- ---- the values that are said for an id

abbrev pub add : Bool → Text → List Text → List Text
add here v vs = if here then v ∷ vs else vs

abbrev pub vals : Text → Place → List Said → List Text
vals id p [] = []
vals id first (text word ∷ said) = add (bytes_eq (place_id first) id) word (vals id second said)
vals id second (text word ∷ said) = add (bytes_eq (place_id second) id) word (vals id third said)
vals id third (text word ∷ said) = add (bytes_eq (place_id third) id) word (vals id beyond said)
vals id beyond (text word ∷ said) = vals id beyond said
vals id p (option o v ∷ said) = add (bytes_eq (option_name o) id) v (vals id p said)

place_differs : (p : Place) (o : OptionName) → bytes_eq (place_id p) (option_name o) ≡ false
place_differs first kind_option = refl
place_differs first budget_option = refl
place_differs first rounds_option = refl
place_differs first order_option = refl
place_differs second kind_option = refl
place_differs second budget_option = refl
place_differs second rounds_option = refl
place_differs second order_option = refl
place_differs third kind_option = refl
place_differs third budget_option = refl
place_differs third rounds_option = refl
place_differs third order_option = refl
place_differs beyond kind_option = refl
place_differs beyond budget_option = refl
place_differs beyond rounds_option = refl
place_differs beyond order_option = refl

option_differs : (o : OptionName) (p : Place) → bytes_eq (option_name o) (place_id p) ≡ false
option_differs kind_option first = refl
option_differs kind_option second = refl
option_differs kind_option third = refl
option_differs budget_option first = refl
option_differs budget_option second = refl
option_differs budget_option third = refl
option_differs rounds_option first = refl
option_differs rounds_option second = refl
option_differs rounds_option third = refl
option_differs order_option first = refl
option_differs order_option second = refl
option_differs order_option third = refl
option_differs kind_option beyond = refl
option_differs budget_option beyond = refl
option_differs rounds_option beyond = refl
option_differs order_option beyond = refl

pub vals_option : (o : OptionName) (p : Place) (said : List Said) → vals (option_name o) p said ≡ values_named (option_name o) said
vals_option o p [] = refl
vals_option o first (text word ∷ said) = rw (place_differs first o) (vals_option o second said)
vals_option o second (text word ∷ said) = rw (place_differs second o) (vals_option o third said)
vals_option o third (text word ∷ said) = rw (place_differs third o) (vals_option o beyond said)
vals_option o beyond (text word ∷ said) = vals_option o beyond said
vals_option o p (option x v ∷ said) = ap (add (bytes_eq (option_name x) (option_name o)) v) (vals_option o p said)

-- the text that goes to a place, by the place of the first
abbrev pub pick : Place → Place → List Text → List Text
pick first first ts = take 1 ts
pick second first ts = take 1 (drop 1 ts)
pick third first ts = take 1 (drop 2 ts)
pick second second ts = take 1 ts
pick third second ts = take 1 (drop 1 ts)
pick third third ts = take 1 ts
pick _ _ ts = []

pub vals_place : (j p : Place) (said : List Said) → vals (place_id j) p said ≡ pick j p (texts_of said)
vals_place first first [] = refl
vals_place first second [] = refl
vals_place first third [] = refl
vals_place first beyond [] = refl
vals_place second first [] = refl
vals_place second second [] = refl
vals_place second third [] = refl
vals_place second beyond [] = refl
vals_place third first [] = refl
vals_place third second [] = refl
vals_place third third [] = refl
vals_place third beyond [] = refl
vals_place beyond p [] = refl
vals_place first first (text w ∷ said) = ap (λ (l : List Text). w ∷ l) (vals_place first second said)
vals_place first second (text w ∷ said) = vals_place first third said
vals_place first third (text w ∷ said) = vals_place first beyond said
vals_place first beyond (text w ∷ said) = vals_place first beyond said
vals_place second first (text w ∷ said) = vals_place second second said
vals_place second second (text w ∷ said) = ap (λ (l : List Text). w ∷ l) (vals_place second third said)
vals_place second third (text w ∷ said) = vals_place second beyond said
vals_place second beyond (text w ∷ said) = vals_place second beyond said
vals_place third first (text w ∷ said) = vals_place third second said
vals_place third second (text w ∷ said) = vals_place third third said
vals_place third third (text w ∷ said) = ap (λ (l : List Text). w ∷ l) (vals_place third beyond said)
vals_place third beyond (text w ∷ said) = vals_place third beyond said
vals_place beyond first (text w ∷ said) = vals_place beyond second said
vals_place beyond second (text w ∷ said) = vals_place beyond third said
vals_place beyond third (text w ∷ said) = vals_place beyond beyond said
vals_place beyond beyond (text w ∷ said) = vals_place beyond beyond said
vals_place j p (option o v ∷ said) = rw (option_differs o j) (vals_place j p said)

abbrev pub room : Place → ℕ
room first = 3
room second = 2
room third = 1
room beyond = 0

-- ---- what the uses leave, and when there is no fault in them

module _ (kinds : ValueParser) where
  -- a value that was given
  pub record IsGiven (id : Text) (vs : List Text) (after : Option Row) : Type 0 where
    pub key : Key
    pub own : key ≡ text_key beyond → ⊥
    pub named : key_id key ≡ id
    pub value : Text
    pub only : vs ≡ value ∷ []
    pub right : accepted kinds key value
    pub row : after ≡ Some (new_row kinds key value)

  -- the row of an id before and after the uses, which say these values for it
  abbrev pub Outcome : Text → Option Row → List Text → Option Row → Type 0
  Outcome id (Some r) vs after = (vs ≡ []) × (after ≡ Some r)
  Outcome id None vs after = ((vs ≡ []) × (after ≡ None)) ⊎ IsGiven id vs after

  nothing_more : (id : Text) (o : Option Row) → Outcome id o [] o
  nothing_more id None = inl (refl, refl)
  nothing_more id (Some r) = (refl, refl)

  one_more : (id : Text) (u : Use) (rows : List Row) (vs : List Text) (after : Option Row)
      → has_row (key_id u.key) rows ≡ false → accepted kinds u.key u.value
      → Outcome id (found id (rows ++ new_row kinds u.key u.value ∷ [])) vs after
      → Outcome id (found id rows) (add (bytes_eq (key_id u.key) id) u.value vs) after
  one_more id u rows vs after fresh right h =
      go (bytes_eq (key_id u.key) id) refl (found id rows) refl
      (subst (λ (o : Option Row). Outcome id o vs after) (found_append id rows (new_row kinds u.key u.value)) h)
    where
      new : Row
      new = new_row kinds u.key u.value

      kept : (o : Option Row) → Outcome id (or_found o None) vs after → Outcome id o vs after
      kept None k = k
      kept (Some r) k = k

      given : key_id u.key ≡ id → Outcome id (Some (new_row kinds u.key u.value)) vs after → Outcome id None (u.value ∷ vs) after
      given e k = inr (record { key = u.key; own = u.own; named = e; value = u.value; only = ap (λ (l : List Text). u.value ∷ l) k.0; right = right; row = k.1 })

      go : (t : Bool) → bytes_eq (key_id u.key) id ≡ t → (o : Option Row) → found id rows ≡ o
          → Outcome id (or_found (found id rows) (if bytes_eq (key_id u.key) id then Some (new_row kinds u.key u.value) else None)) vs after
          → Outcome id (found id rows) (add (bytes_eq (key_id u.key) id) u.value vs) after
      go false e o f k =
          let k2 : Outcome id (or_found (found id rows) None) vs after = rw e at k in
          rw e (kept (found id rows) k2)
      go true e None f k =
          let k2 : Outcome id (Some (new_row kinds u.key u.value)) vs after = rw (e, f) at k in
          rw (e, f) (given ((bytes_eq-Decides (key_id u.key) id).0 e) k2)
      go true e (Some r) f k =
          let same = (bytes_eq-Decides (key_id u.key) id).0 e in
          absurd (some_found (key_id u.key) rows r (ap (λ (i : Text). found i rows) same ∙ f) fresh)

  pub outcome : (p : Place) (said : List Said) (rows end : List Row) → run_said kinds p said rows ≡ Some end
      → (id : Text) → Outcome id (found id rows) (vals id p said) (found id end)
  unfolding run_said
  outcome p [] rows end e id =
      let same : rows ≡ end = cc in
      subst (λ (l : List Row). Outcome id (found id rows) [] (found id l)) same (nothing_more id (found id rows))
  outcome first (text word ∷ said) rows end e id =
      let u = text_use kinds first (text_key first) refl word in
      let s = use_free kinds u rows (run_said kinds second said) end e in
      one_more id u rows (vals id second said) (found id end) s.fresh s.right (outcome second said (rows ++ new_row kinds u.key u.value ∷ []) end s.more id)
  outcome second (text word ∷ said) rows end e id =
      let u = text_use kinds second (text_key second) refl word in
      let s = use_free kinds u rows (run_said kinds third said) end e in
      one_more id u rows (vals id third said) (found id end) s.fresh s.right (outcome third said (rows ++ new_row kinds u.key u.value ∷ []) end s.more id)
  outcome third (text word ∷ said) rows end e id =
      let u = text_use kinds third (text_key third) refl word in
      let s = use_free kinds u rows (run_said kinds beyond said) end e in
      one_more id u rows (vals id beyond said) (found id end) s.fresh s.right (outcome beyond said (rows ++ new_row kinds u.key u.value ∷ []) end s.more id)
  outcome beyond (text word ∷ said) rows end e id = let bad : None ≡ Some end = e in absurd cc
  outcome p (option o v ∷ said) rows end e id =
      let s = use_free kinds (use_of o v) rows (run_said kinds p said) end e in
      one_more id (use_of o v) rows (vals id p said) (found id end) s.fresh s.right (outcome p said (rows ++ new_row kinds (option_key o) v ∷ []) end s.more id)

  -- no more texts than places
  pub few_texts : (p : Place) (said : List Said) (rows end : List Row) → run_said kinds p said rows ≡ Some end → length (texts_of said) ≤ room p
  unfolding run_said
  few_texts p [] rows end e = omega arith
  few_texts first (text word ∷ said) rows end e =
      let s = use_free kinds (text_use kinds first (text_key first) refl word) rows (run_said kinds second said) end e in
      let more = few_texts second said _ end s.more in omega arith
  few_texts second (text word ∷ said) rows end e =
      let s = use_free kinds (text_use kinds second (text_key second) refl word) rows (run_said kinds third said) end e in
      let more = few_texts third said _ end s.more in omega arith
  few_texts third (text word ∷ said) rows end e =
      let s = use_free kinds (text_use kinds third (text_key third) refl word) rows (run_said kinds beyond said) end e in
      let more = few_texts beyond said _ end s.more in omega arith
  few_texts beyond (text word ∷ said) rows end e = let bad : None ≡ Some end = e in absurd cc
  few_texts p (option o v ∷ said) rows end e =
      let s = use_free kinds (use_of o v) rows (run_said kinds p said) end e in
      few_texts p said _ end s.more

  -- the values that are still to be said for an argument pass, by the row that it has
  abbrev pub Ready : Key → Option Row → List Text → Type 0
  Ready k (Some r) vs = vs ≡ []
  Ready k None vs = (vs ≡ []) ⊎ ((v : Text) × (vs ≡ v ∷ []) × accepted kinds k v)

  abbrev AllReady : List Row → (Text → List Text) → Type 0
  AllReady rows vs = (k : Key) → (k ≡ text_key beyond → ⊥) → Ready k (found (key_id k) rows) (vs (key_id k))

  pub record IsTaken (u : Use) (rows : List Row) (vs : Text → List Text) : Type 0 where
    pub fresh : has_row (key_id u.key) rows ≡ false
    pub right : accepted kinds u.key u.value
    pub last : vs (key_id u.key) ≡ []

  taken : (u : Use) (rows : List Row) (vs : Text → List Text) → AllReady rows (λ id. add (bytes_eq (key_id u.key) id) u.value (vs id)) → IsTaken u rows vs
  taken u rows vs h = go (found (key_id u.key) rows) refl (h u.key u.own)
    where
      here : bytes_eq (key_id u.key) (key_id u.key) ≡ true
      here = (bytes_eq-Decides (key_id u.key) (key_id u.key)).1 refl

      go : (o : Option Row) → found (key_id u.key) rows ≡ o → Ready u.key (found (key_id u.key) rows) (add (bytes_eq (key_id u.key) (key_id u.key)) u.value (vs (key_id u.key))) → IsTaken u rows vs
      go (Some r) e k = let bad : u.value ∷ vs (key_id u.key) ≡ [] = rw (e, (bytes_eq-Decides (key_id u.key) (key_id u.key)).1 refl) at k in absurd cc
      go None e k = ends e (rw (e, (bytes_eq-Decides (key_id u.key) (key_id u.key)).1 refl) at k)
        where
          ends : found (key_id u.key) rows ≡ None → (u.value ∷ vs (key_id u.key) ≡ []) ⊎ ((v : Text) × (u.value ∷ vs (key_id u.key) ≡ v ∷ []) × accepted kinds u.key v) → IsTaken u rows vs
          ends e (inl bad) = absurd cc
          ends e (inr s) =
              let same : s.0 ≡ u.value = cc in
              let none : vs (key_id u.key) ≡ [] = cc in
              record { fresh = none_found (key_id u.key) rows e; right = subst (λ (v : Text). accepted kinds u.key v) same s.2; last = none }

  still : (u : Use) (rows : List Row) (vs : Text → List Text) → AllReady rows (λ id. add (bytes_eq (key_id u.key) id) u.value (vs id)) → IsTaken u rows vs
      → AllReady (rows ++ new_row kinds u.key u.value ∷ []) vs
  still u rows vs h t k own = go (bytes_eq (key_id u.key) (key_id k)) refl (h k own)
    where
      kept : (o : Option Row) (l : List Text) → Ready k o l → Ready k (or_found o None) l
      kept None l r = r
      kept (Some x) l r = r

      mine : (o : Option Row) (l : List Text) → l ≡ [] → Ready k (or_found o (Some (new_row kinds u.key u.value))) l
      mine None l e = e
      mine (Some x) l e = e

      go : (b : Bool) → bytes_eq (key_id u.key) (key_id k) ≡ b → Ready k (found (key_id k) rows) (add (bytes_eq (key_id u.key) (key_id k)) u.value (vs (key_id k)))
          → Ready k (found (key_id k) (rows ++ new_row kinds u.key u.value ∷ [])) (vs (key_id k))
      go false e r =
          let r2 : Ready k (found (key_id k) rows) (vs (key_id k)) = rw e at r in
          rw (found_append (key_id k) rows (new_row kinds u.key u.value), e) (kept (found (key_id k) rows) (vs (key_id k)) r2)
      go true e r =
          let same = (bytes_eq-Decides (key_id u.key) (key_id k)).0 e in
          let none : vs (key_id k) ≡ [] = ap vs (sym same) ∙ t.last in
          rw (found_append (key_id k) rows (new_row kinds u.key u.value), e) (mine (found (key_id k) rows) (vs (key_id k)) none)

  abbrev pub Runs : Place → List Said → List Row → Type 0
  Runs p said rows = (end : List Row) × (run_said kinds p said rows ≡ Some end)

  run_more : (u : Use) (rows : List Row) (vs : Text → List Text) (next : List Row → Option (List Row))
      → AllReady rows (λ id. add (bytes_eq (key_id u.key) id) u.value (vs id))
      → (AllReady (rows ++ new_row kinds u.key u.value ∷ []) vs → (end : List Row) × (next (rows ++ new_row kinds u.key u.value ∷ []) ≡ Some end))
      → (end : List Row) × (use_then kinds u rows next ≡ Some end)
  run_more u rows vs next h more =
      let t = taken u rows vs h in
      let r = more (still u rows vs h t) in
      (r.0, use_goes kinds u rows next t.fresh t.right ∙ r.1)

  pub runs : (p : Place) (said : List Said) (rows : List Row) → length (texts_of said) ≤ room p → AllReady rows (λ id. vals id p said) → Runs p said rows
  unfolding run_said
  runs p [] rows few h = (rows, refl)
  runs first (text word ∷ said) rows few h =
      run_more (text_use kinds first (text_key first) refl word) rows (λ id. vals id second said) (run_said kinds second said) h (λ k. runs second said _ (omega arith) k)
  runs second (text word ∷ said) rows few h =
      run_more (text_use kinds second (text_key second) refl word) rows (λ id. vals id third said) (run_said kinds third said) h (λ k. runs third said _ (omega arith) k)
  runs third (text word ∷ said) rows few h =
      run_more (text_use kinds third (text_key third) refl word) rows (λ id. vals id beyond said) (run_said kinds beyond said) h (λ k. runs beyond said _ (omega arith) k)
  runs beyond (text word ∷ said) rows few h = absurd (omega arith)
  runs p (option o v ∷ said) rows few h =
      run_more (use_of o v) rows (λ id. vals id p said) (run_said kinds p said) h (λ k. runs p said _ few k)
