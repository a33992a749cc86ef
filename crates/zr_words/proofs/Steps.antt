-- What each word does to the walk of `clap` over the words.
use Rattle.std.proofs.Common.{◌≡◌, ℕ, Bool, true, false, ◌&&◌, ◌||◌, List, [], ◌∷◌, ◌++◌, Option, Some, None, refl, ap, ap₂, ◌∙◌, codes, option_map}
use Rattle.clap.specs.Words.{Row, Rule, Text, Kinds}
use Rattle.clap.specs.Walk.{Held, Walk, Step, idle, value, settled, settled_rows, used, arg_by_index, word_met, walked, after_step, next_position, is_pending, positional_held, pushed, to_positional}
use Rattle.clap.specs.Walk.{option as option_waits}
use Rattle.clap.specs.Faults.{use_fault, settle_fault, turn_fault, word_fault, step_fault, positional_fault, stray_fault}
use Rattle.std.specs.Option.{option_map_or}
use Rattle.std.specs.Prelude.{if◌then◌else◌}
use Rattle.clap.specs.Kinds.{or_else}
use Rattle.clap.specs.declared.builder.value_parser.ValueParser.{ValueParser}
use Rattle.zr_words.specs.Words.{OptionName, Words, kind_option, budget_option, rounds_option, order_option, option_name}
use Rattle.zr_words.proofs.Rules.{Place, first, second, third, beyond, place_number, next_place, Key, text_key, option_key, key_id, key_rule, rules, top, place_key, by_id}

-- ---- rows where there is no fault

-- nothing where there is a fault
abbrev pub free : Kinds → Option (List Row) → Option (List Row)
free [] o = o
free (k ∷ ks) o = None

pub free_or : (a b : Kinds) (o : Option (List Row)) → free (or_else a b) o ≡ free a (free b o)
free_or [] b o = refl
free_or (k ∷ ks) b o = refl

pub free_none : (a : Kinds) → free a None ≡ None
free_none [] = refl
free_none (k ∷ ks) = refl

-- a key that has an argument, with a value of it
pub record Use : Type 0 where
  pub key : Key
  pub own : key ≡ text_key beyond → ⊥
  pub value : Text

pub option_own : (o : OptionName) → option_key o ≡ text_key beyond → ⊥
option_own o e = cc

abbrev pub use_of : OptionName → Text → Use
use_of o v = record { key = option_key o; own = option_own o; value = v }

abbrev pub joined_word : OptionName → Text → Text
joined_word o v = codes "--" ++ option_name o ++ codes "=" ++ v

abbrev pub apart_word : OptionName → Text
apart_word o = codes "--" ++ option_name o

module _ (kinds : ValueParser) where
  -- the rows at the end of the walk, where there is no fault on the way
  unfoldable pub end_of : Walk → Words → Option (List Row)
  end_of w [] = free (settle_fault (rules kinds) false w.held) (Some (settled (rules kinds) w.held).rows)
  end_of w (word ∷ rest) = free (turn_fault (top kinds) [] w word) (end_of (walked (rules kinds) [] w word) rest)

  -- one use of an argument, and then more
  abbrev pub use_then : Use → List Row → (List Row → Option (List Row)) → Option (List Row)
  use_then u rows next = free (use_fault false (key_rule kinds u.key) (u.value ∷ []) rows)
      (next (used (key_rule kinds u.key) (u.value ∷ []) rows))

  -- the use that is pending, and then more
  abbrev pub settle_then : Option Use → List Row → (List Row → Option (List Row)) → Option (List Row)
  settle_then None rows next = next rows
  settle_then (Some u) rows next = use_then u rows next

  abbrev pub pending : Option Use → Option (Text × List Text)
  pending None = None
  pending (Some u) = Some (key_id u.key, u.value ∷ [])

  abbrev pub held_at : List Row → Option Use → Held
  held_at rows q = record { rows = rows; pending = pending q; skip = 0 }

  -- between two words, where no option waits for its value
  abbrev pub at : List Row → Option Use → Place → Bool → Walk
  at rows q p trailing = record { held = held_at rows q; waiting = idle; position = place_number p; is_trailing = trailing; stopped = None }

  pub settle_is : (rows : List Row) (q : Option Use) (next : List Row → Option (List Row))
      → free (settle_fault (rules kinds) false (held_at rows q)) (next (settled_rows (rules kinds) (pending q) rows))
      ≡ settle_then q rows next
  settle_is rows None next = refl
  settle_is rows (Some u) next = rw (by_id kinds u.key u.own) refl

  -- ---- a text

  and_false : (b : Bool) → (b && false) ≡ false
  and_false true = refl
  and_false false = refl

  or_false : (b : Bool) → (b || false) ≡ b
  or_false true = refl
  or_false false = refl

  -- the argument of a place, which takes one value
  by_place : (p : Place) (k : Key) → place_key p ≡ Some k → arg_by_index (rules kinds) (place_number p) ≡ Some (key_rule kinds k)
  unfolding top
  by_place first k e = ap (λ o. option_map (key_rule kinds) o) e
  by_place second k e = ap (λ o. option_map (key_rule kinds) o) e
  by_place third k e = ap (λ o. option_map (key_rule kinds) o) e
  by_place beyond k e = absurd cc

  no_place : arg_by_index (rules kinds) (place_number beyond) ≡ None
  unfolding top
  no_place = refl

  pub own_place : (p : Place) (k : Key) → place_key p ≡ Some k → k ≡ text_key beyond → ⊥
  own_place first k e h = cc
  own_place second k e h = cc
  own_place third k e h = cc
  own_place beyond k e h = cc

  next_number : (p : Place) (k : Key) → place_key p ≡ Some k → next_position (key_rule kinds k) (place_number p) ≡ place_number (next_place p)
  next_number first k e = refl
  next_number second k e = refl
  next_number third k e = refl
  next_number beyond k e = absurd cc

  abbrev idle_at : Held → ℕ → Bool → Walk
  idle_at h n t = record { held = h; waiting = idle; position = n; is_trailing = t; stopped = None }

  -- where the word goes to the positional
  abbrev word_step : List Row → Option Use → Place → Bool → Text → Held × Step
  word_step rows q p trailing word = word_met (rules kinds) [] trailing idle (place_number p) word (held_at rows q)

  settled_at : (rows : List Row) (q : Option Use) → Held
  settled_at rows q = settled (rules kinds) (held_at rows q)

  pub positional_is : (h : Held) (k : Key)
      → positional_fault (rules kinds) false (key_rule kinds k) h ≡ settle_fault (rules kinds) false h
  positional_is h k = ap (λ (b : Bool). if b then [] else settle_fault (rules kinds) false h) (and_false (is_pending (key_rule kinds k) h.pending))

  positional_goes : (rows : List Row) (q : Option Use) (u : Use)
      → positional_held (rules kinds) (key_rule kinds u.key) u.value (held_at rows q)
      ≡ held_at (settled_rows (rules kinds) (pending q) rows) (Some u)
  positional_goes rows q u =
      ap (λ (b : Bool). pushed (key_id u.key) u.value (if b then held_at rows q else settled (rules kinds) (held_at rows q)))
      (and_false (is_pending (key_rule kinds u.key) (pending q)))

  turn_at : (rows : List Row) (q : Option Use) (p : Place) (trailing : Bool) (word : Text) (met : Held × Step)
      → word_step rows q p trailing word ≡ met → word_fault (top kinds) [] trailing idle word (held_at rows q) ≡ []
      → turn_fault (top kinds) [] (at rows q p trailing) word ≡ step_fault (top kinds) (place_number p) met.0 met.1
  turn_at rows q p trailing word met e f =
      ap₂ (λ (a : Kinds) (b : Held × Step). or_else a (step_fault (top kinds) (place_number p) b.0 b.1)) f e

  walked_at : (rows : List Row) (q : Option Use) (p : Place) (trailing : Bool) (word : Text) (met : Held × Step)
      → word_step rows q p trailing word ≡ met
      → walked (rules kinds) [] (at rows q p trailing) word ≡ after_step (rules kinds) word (at rows q p trailing) met.0 met.1
  unfolding walked
  walked_at rows q p trailing word met e =
      ap (λ (b : Held × Step). after_step (rules kinds) word (at rows q p trailing) b.0 b.1) e

  pub text_taken : (rows : List Row) (q : Option Use) (p : Place) (trailing : Bool) (u : Use) (rest : Words)
      → place_key p ≡ Some u.key
      → word_step rows q p trailing u.value ≡ (held_at rows q, value)
      → word_fault (top kinds) [] trailing idle u.value (held_at rows q) ≡ []
      → end_of (at rows q p trailing) (u.value ∷ rest)
      ≡ settle_then q rows (λ settled. end_of (at settled (Some u) (next_place p) trailing) rest)
  unfolding end_of top
  text_taken rows q p trailing u rest is met none =
      let here = by_place p u.key is in
      let fault : turn_fault (top kinds) [] (at rows q p trailing) u.value ≡ settle_fault (rules kinds) false (held_at rows q) =
      turn_at rows q p trailing u.value (held_at rows q, value) met none
      ∙ ap (λ (o : Option Rule). option_map_or (λ a. positional_fault (rules kinds) false a (held_at rows q)) o (stray_fault (top kinds))) here
      ∙ positional_is (held_at rows q) u.key in
      let goes : walked (rules kinds) [] (at rows q p trailing) u.value ≡ at (settled_rows (rules kinds) (pending q) rows) (Some u) (next_place p) trailing =
      walked_at rows q p trailing u.value (held_at rows q, value) met
      ∙ ap (λ (o : Option Rule). to_positional (rules kinds) o u.value (at rows q p trailing) (held_at rows q)) here
      ∙ moved (positional_held (rules kinds) (key_rule kinds u.key) u.value (held_at rows q)) _ _ _ _ _ (positional_goes rows q u) (next_number p u.key is) (or_false trailing) in
      ap₂ (λ (a : Kinds) (w : Walk). free a (end_of w rest)) fault goes
      ∙ settle_is rows q (λ settled. end_of (at settled (Some u) (next_place p) trailing) rest)
    where
      moved : (h g : Held) (n m : ℕ) (s t : Bool) → h ≡ g → n ≡ m → s ≡ t → idle_at h n s ≡ idle_at g m t
      moved h g n m s t a b c = cc

  pub text_stray : (rows : List Row) (q : Option Use) (trailing : Bool) (word : Text) (rest : Words)
      → word_step rows q beyond trailing word ≡ (held_at rows q, value)
      → word_fault (top kinds) [] trailing idle word (held_at rows q) ≡ []
      → end_of (at rows q beyond trailing) (word ∷ rest) ≡ None
  unfolding end_of top
  text_stray rows q trailing word rest met none =
      ap (λ (a : Kinds). free a (end_of (walked (rules kinds) [] (at rows q beyond trailing) word) rest))
      (turn_at rows q beyond trailing word (held_at rows q, value) met none)

  -- ---- an option

  -- the option waits for its value
  abbrev pub waits_at : List Row → OptionName → Place → Bool → Walk
  waits_at rows o p trailing = record {
    held = record { rows = rows; pending = Some (option_name o, []); skip = 0 };
    waiting = option_waits (option_name o);
    position = place_number p;
    is_trailing = trailing;
    stopped = None;
  }

  joined_turn : (rows : List Row) (q : Option Use) (p : Place) (o : OptionName) (v : Text)
      → turn_fault (top kinds) [] (at rows q p false) (joined_word o v)
      ≡ or_else (or_else (settle_fault (rules kinds) false (held_at rows q))
      (use_fault false (key_rule kinds (option_key o)) (v ∷ []) (settled_rows (rules kinds) (pending q) rows))) []
  unfolding top
  joined_turn rows q p kind_option v = refl
  joined_turn rows q p budget_option v = refl
  joined_turn rows q p rounds_option v = refl
  joined_turn rows q p order_option v = refl

  joined_goes : (rows : List Row) (q : Option Use) (p : Place) (o : OptionName) (v : Text)
      → walked (rules kinds) [] (at rows q p false) (joined_word o v)
      ≡ at (used (key_rule kinds (option_key o)) (v ∷ []) (settled_rows (rules kinds) (pending q) rows)) None p false
  unfolding top walked
  joined_goes rows q p kind_option v = refl
  joined_goes rows q p budget_option v = refl
  joined_goes rows q p rounds_option v = refl
  joined_goes rows q p order_option v = refl

  pub joined_taken : (rows : List Row) (q : Option Use) (p : Place) (o : OptionName) (v : Text) (rest : Words)
      → end_of (at rows q p false) (joined_word o v ∷ rest)
      ≡ settle_then q rows (λ settled. use_then (use_of o v) settled (λ more. end_of (at more None p false) rest))
  unfolding end_of
  joined_taken rows q p o v rest =
      let now = settled_rows (rules kinds) (pending q) rows in
      let a = settle_fault (rules kinds) false (held_at rows q) in
      let b = use_fault false (key_rule kinds (option_key o)) (v ∷ []) now in
      let r = end_of (at (used (key_rule kinds (option_key o)) (v ∷ []) now) None p false) rest in
      ap₂ (λ (x : Kinds) (w : Walk). free x (end_of w rest)) (joined_turn rows q p o v) (joined_goes rows q p o v)
      ∙ free_or (or_else a b) [] r
      ∙ free_or a b r
      ∙ settle_is rows q (λ settled. use_then (use_of o v) settled (λ more. end_of (at more None p false) rest))

  apart_turn : (rows : List Row) (q : Option Use) (p : Place) (o : OptionName)
      → turn_fault (top kinds) [] (at rows q p false) (apart_word o) ≡ or_else (settle_fault (rules kinds) false (held_at rows q)) []
  unfolding top
  apart_turn rows q p kind_option = refl
  apart_turn rows q p budget_option = refl
  apart_turn rows q p rounds_option = refl
  apart_turn rows q p order_option = refl

  apart_goes : (rows : List Row) (q : Option Use) (p : Place) (o : OptionName)
      → walked (rules kinds) [] (at rows q p false) (apart_word o)
      ≡ waits_at (settled_rows (rules kinds) (pending q) rows) o p false
  unfolding top walked
  apart_goes rows q p kind_option = refl
  apart_goes rows q p budget_option = refl
  apart_goes rows q p rounds_option = refl
  apart_goes rows q p order_option = refl

  pub apart_waits : (rows : List Row) (q : Option Use) (p : Place) (o : OptionName) (rest : Words)
      → end_of (at rows q p false) (apart_word o ∷ rest)
      ≡ settle_then q rows (λ settled. end_of (waits_at settled o p false) rest)
  unfolding end_of
  apart_waits rows q p o rest =
      ap₂ (λ (x : Kinds) (w : Walk). free x (end_of w rest)) (apart_turn rows q p o) (apart_goes rows q p o)
      ∙ free_or (settle_fault (rules kinds) false (held_at rows q)) [] (end_of (waits_at (settled_rows (rules kinds) (pending q) rows) o p false) rest)
      ∙ settle_is rows q (λ settled. end_of (waits_at settled o p false) rest)

  -- the option that waits gets no value
  pub waits_end : (rows : List Row) (o : OptionName) (p : Place) (trailing : Bool) → end_of (waits_at rows o p trailing) [] ≡ None
  unfolding end_of top
  waits_end rows kind_option p trailing = refl
  waits_end rows budget_option p trailing = refl
  waits_end rows rounds_option p trailing = refl
  waits_end rows order_option p trailing = refl

  pub settle_same : (q : Option Use) (rows : List Row) (f g : List Row → Option (List Row)) → ((now : List Row) → f now ≡ g now)
      → settle_then q rows f ≡ settle_then q rows g
  settle_same None rows f g h = h rows
  settle_same (Some u) rows f g h = ap (free (use_fault false (key_rule kinds u.key) (u.value ∷ []) rows)) (h (used (key_rule kinds u.key) (u.value ∷ []) rows))

  pub none_past : (rows : List Row) (q : Option Use) → settle_then q rows (λ settled. None) ≡ None
  none_past rows None = refl
  none_past rows (Some u) = free_none _

  -- ---- `--`

  pub ended_goes : (rows : List Row) (q : Option Use) (p : Place) (rest : Words)
      → end_of (at rows q p false) (codes "--" ∷ rest) ≡ end_of (at rows q p true) rest
  unfolding end_of top walked
  ended_goes rows q p rest = refl

  pub waits_ended : (rows : List Row) (o : OptionName) (p : Place) (rest : Words)
      → end_of (waits_at rows o p false) (codes "--" ∷ rest) ≡ end_of (waits_at rows o p true) rest
  unfolding end_of top walked
  waits_ended rows o p rest = refl
