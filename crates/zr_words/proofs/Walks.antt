-- The walk of `clap` over words is the uses that they say.
use Rattle.std.proofs.Common.{◌≡◌, ◌⊎◌, inl, inr, ℕ, suc, Bool, true, false, List, [], ◌∷◌, Option, Some, None, refl, sym, ap, ap₂, ◌∙◌, subst, codes, bytes_eq, map, IsUtf8, arith}
use Rattle.std.specs.List.{All}
use Rattle.clap.specs.Words.{Row, Text, Kinds}
use Rattle.clap.specs.Walk.{Held, Walk, Step, idle, value, next, word_met, walked, after_step}
use Rattle.clap.specs.Walk.{option as option_waits}
use Rattle.clap.specs.Faults.{turn_fault, word_fault, step_fault, flag_word_fault, settle_fault}
use Rattle.clap.specs.Kinds.{or_else}
use Rattle.clap.specs.declared.builder.value_parser.ValueParser.{ValueParser}
use Rattle.zr_words.specs.Words.{OptionName, Said, text, option, Says, nothing, plain, joined, apart, ended, Words, kind_option, budget_option, rounds_option, order_option, option_name, IsPlain}
use Rattle.zr_words.proofs.Rules.{Place, first, second, third, beyond, place_number, next_place, Key, text_key, rules, top, place_key}
use Rattle.zr_words.proofs.Steps.{Use, free, free_or, use_of, joined_word, apart_word, end_of, use_then, settle_then, at, held_at, waits_at, text_taken, text_stray, joined_taken, apart_waits, waits_end, none_past, ended_goes, waits_ended, positional_is, own_place, settle_same, settle_is, pending}
use Rattle.std.specs.Prelude.{if◌then◌else◌}
use Rattle.clap.specs.Lexer.{long_of}
use Rattle.zr_words.proofs.Spelling.{held_with, plain_facts, IsBlocked, WordForm, plain_form, end_form, apart_form, joined_form, blocked_form, word_form}

module _ (kinds : ValueParser) where
  -- the use of a text at its place
  abbrev pub text_use : (p : Place) (k : Key) → place_key p ≡ Some k → Text → Use
  text_use p k e word = record { key = k; own = own_place kinds p k e; value = word }

  -- the rows after what is said, where there is no fault
  unfoldable pub run_said : Place → List Said → List Row → Option (List Row)
  run_said p [] rows = Some rows
  run_said first (text word ∷ said) rows = use_then kinds (text_use first (text_key first) refl word) rows (run_said second said)
  run_said second (text word ∷ said) rows = use_then kinds (text_use second (text_key second) refl word) rows (run_said third said)
  run_said third (text word ∷ said) rows = use_then kinds (text_use third (text_key third) refl word) rows (run_said beyond said)
  run_said beyond (text word ∷ said) rows = None
  run_said p (option o v ∷ said) rows = use_then kinds (use_of o v) rows (run_said p said)

  -- ---- one word

  plain_met : (rows : List Row) (q : Option Use) (n : ℕ) (word : Text) → IsPlain word
      → word_met (rules kinds) [] false idle n word (held_at kinds rows q) ≡ (held_at kinds rows q, value)
  plain_met rows q n word h = let f = plain_facts word h in rw (f.no_end, f.no_long, f.no_short) refl

  plain_fault : (rows : List Row) (q : Option Use) (word : Text) → IsPlain word
      → word_fault (top kinds) [] false idle word (held_at kinds rows q) ≡ []
  plain_fault rows q word h = let f = plain_facts word h in rw (f.no_end, f.no_long, f.no_short) refl

  -- a text that stands at a place, or at none
  text_at : (rows : List Row) (q : Option Use) (p : Place) (trailing : Bool) (word : Text) (rest : Words) (said : List Said)
      → word_met (rules kinds) [] trailing idle (place_number p) word (held_at kinds rows q) ≡ (held_at kinds rows q, value)
      → word_fault (top kinds) [] trailing idle word (held_at kinds rows q) ≡ []
      → ((now : List Row) (u : Option Use) → end_of kinds (at kinds now u (next_place p) trailing) rest ≡ settle_then kinds u now (run_said (next_place p) said))
      → end_of kinds (at kinds rows q p trailing) (word ∷ rest) ≡ settle_then kinds q rows (run_said p (text word ∷ said))
  unfolding run_said
  text_at rows q first trailing word rest said met none more =
      let u = text_use first (text_key first) refl word in
      text_taken kinds rows q first trailing u rest refl met none
      ∙ settle_same kinds q rows _ _ (λ now. more now (Some u))
  text_at rows q second trailing word rest said met none more =
      let u = text_use second (text_key second) refl word in
      text_taken kinds rows q second trailing u rest refl met none
      ∙ settle_same kinds q rows _ _ (λ now. more now (Some u))
  text_at rows q third trailing word rest said met none more =
      let u = text_use third (text_key third) refl word in
      text_taken kinds rows q third trailing u rest refl met none
      ∙ settle_same kinds q rows _ _ (λ now. more now (Some u))
  text_at rows q beyond trailing word rest said met none more =
      text_stray kinds rows q trailing word rest met none ∙ sym (none_past kinds rows q)

  -- ---- an option that waits

  waits_met : (rows : List Row) (o : OptionName) (n : ℕ) (v : Text) → IsPlain v
      → word_met (rules kinds) [] false (option_waits (option_name o)) n v (waits_at kinds rows o first false).held
      ≡ (held_at kinds rows (Some (use_of o v)), next idle)
  unfolding top
  waits_met rows kind_option n v h = let f = plain_facts v h in rw (f.no_end, f.no_long, f.no_short) refl
  waits_met rows budget_option n v h = let f = plain_facts v h in rw (f.no_end, f.no_long, f.no_short) refl
  waits_met rows rounds_option n v h = let f = plain_facts v h in rw (f.no_end, f.no_long, f.no_short) refl
  waits_met rows order_option n v h = let f = plain_facts v h in rw (f.no_end, f.no_long, f.no_short) refl

  waits_fault : (rows : List Row) (o : OptionName) (v : Text) → IsPlain v
      → word_fault (top kinds) [] false (option_waits (option_name o)) v (waits_at kinds rows o first false).held ≡ []
  waits_fault rows o v h = let f = plain_facts v h in rw (f.no_end, f.no_long, f.no_short) refl

  waits_taken : (rows : List Row) (o : OptionName) (p : Place) (v : Text) (rest : Words) → IsPlain v
      → end_of kinds (waits_at kinds rows o p false) (v ∷ rest) ≡ end_of kinds (at kinds rows (Some (use_of o v)) p false) rest
  unfolding end_of walked
  waits_taken rows o p v rest h =
      let met = waits_met rows o (place_number p) v h in
      ap₂ (λ (a : Kinds) (w : Walk). free a (end_of kinds w rest))
      (ap₂ (λ (a : Kinds) (b : Held × Step). or_else a (step_fault (top kinds) (place_number p) b.0 b.1)) (waits_fault rows o v h) met)
      (ap (λ (b : Held × Step). after_step (rules kinds) v (waits_at kinds rows o p false) b.0 b.1) met)

  -- a word that is a fault wherever it stands
  first_blocks : (t : Bool) (f s : Kinds) (o : Option (List Row)) → t ≡ false → ((x : Option (List Row)) → free f x ≡ None)
      → free (or_else (if t then [] else f) s) o ≡ None
  first_blocks t f s o e h = rw e (free_or f s o ∙ h (free s o))

  blocked_at : (rows : List Row) (q : Option Use) (p : Place) (word : Text) (rest : Words) → IsBlocked kinds word
      → end_of kinds (at kinds rows q p false) (word ∷ rest) ≡ None
  unfolding end_of top
  blocked_at rows q p word rest b =
      let met = word_met (rules kinds) [] false idle (place_number p) word (held_at kinds rows q) in
      first_blocks (bytes_eq word (45 ∷ 45 ∷ [])) (flag_word_fault (rules kinds) false (long_of word) word (held_at kinds rows q))
      (step_fault (top kinds) (place_number p) met.0 met.1) (end_of kinds (walked (rules kinds) [] (at kinds rows q p false) word) rest)
      b.no_end (b.fault rows (pending kinds q))

  -- a flag after an option that waits
  abbrev BlocksWaiting : Text → Type 0
  BlocksWaiting word = (rows : List Row) (o : OptionName) (x : Option (List Row))
      → free (flag_word_fault (rules kinds) false (long_of word) word (held_with kinds rows (Some (option_name o, [])))) x ≡ None

  flag_waits : (rows : List Row) (o : OptionName) (p : Place) (word : Text) (rest : Words)
      → bytes_eq word (45 ∷ 45 ∷ []) ≡ false → BlocksWaiting word
      → end_of kinds (waits_at kinds rows o p false) (word ∷ rest) ≡ None
  unfolding end_of top
  flag_waits rows o p word rest e blocks =
      let held = held_with kinds rows (Some (option_name o, [])) in
      let met = word_met (rules kinds) [] false (option_waits (option_name o)) (place_number p) word held in
      first_blocks (bytes_eq word (45 ∷ 45 ∷ [])) (flag_word_fault (rules kinds) false (long_of word) word held)
      (step_fault (top kinds) (place_number p) met.0 met.1) (end_of kinds (walked (rules kinds) [] (waits_at kinds rows o p false) word) rest)
      e (blocks rows o)

  -- it has no value yet
  waits_fails : (rows : List Row) (o : OptionName) (x : Option (List Row))
      → free (settle_fault (rules kinds) false (held_with kinds rows (Some (option_name o, [])))) x ≡ None
  unfolding top
  waits_fails rows kind_option x = refl
  waits_fails rows budget_option x = refl
  waits_fails rows rounds_option x = refl
  waits_fails rows order_option x = refl

  waits_blocks : (rows : List Row) (o : OptionName) (more : Kinds) (x : Option (List Row))
      → free (or_else (settle_fault (rules kinds) false (held_with kinds rows (Some (option_name o, [])))) more) x ≡ None
  unfolding top
  waits_blocks rows kind_option more x = refl
  waits_blocks rows budget_option more x = refl
  waits_blocks rows rounds_option more x = refl
  waits_blocks rows order_option more x = refl

  -- a text after `--`, where an option waits
  waits_value : (rows : List Row) (o : OptionName) (p : Place) (word : Text) (x : Option (List Row))
      → free (turn_fault (top kinds) [] (waits_at kinds rows o p true) word) x ≡ None
  unfolding top
  waits_value rows o first word x = ap (λ (a : Kinds). free a x) (positional_is kinds (held_with kinds rows (Some (option_name o, []))) (text_key first)) ∙ waits_fails rows o x
  waits_value rows o second word x = ap (λ (a : Kinds). free a x) (positional_is kinds (held_with kinds rows (Some (option_name o, []))) (text_key second)) ∙ waits_fails rows o x
  waits_value rows o third word x = ap (λ (a : Kinds). free a x) (positional_is kinds (held_with kinds rows (Some (option_name o, []))) (text_key third)) ∙ waits_fails rows o x
  waits_value rows o beyond word x = refl

  -- ---- the words that say something

  trailing_said : (words : Words) (rows : List Row) (q : Option Use) (p : Place)
      → end_of kinds (at kinds rows q p true) words ≡ settle_then kinds q rows (run_said p (map text words))
  unfolding end_of run_said
  trailing_said [] rows q p = settle_is kinds rows q Some
  trailing_said (word ∷ words) rows q p = text_at rows q p true word words (map text words) refl refl (λ now u. trailing_said words now u (next_place p))

  pub said_run : (words : Words) (said : List Said) → Says words said → (rows : List Row) (q : Option Use) (p : Place)
      → end_of kinds (at kinds rows q p false) words ≡ settle_then kinds q rows (run_said p said)
  unfolding run_said end_of
  said_run _ _ nothing rows q p = settle_is kinds rows q Some
  said_run _ _ (plain word words said h more) rows q p =
      text_at rows q p false word words said (plain_met rows q (place_number p) word h) (plain_fault rows q word h)
      (λ now u. said_run words said more now u (next_place p))
  said_run _ _ (joined o v words said more) rows q p =
      joined_taken kinds rows q p o v words
      ∙ settle_same kinds q rows _ _ (λ settled. settle_same kinds (Some (use_of o v)) settled _ _ (λ now. said_run words said more now None p))
  said_run _ _ (apart o v words said h more) rows q p =
      apart_waits kinds rows q p o (v ∷ words)
      ∙ settle_same kinds q rows _ _ (λ settled. waits_taken settled o p v words h ∙ said_run words said more settled (Some (use_of o v)) p)
  said_run _ _ (ended words) rows q p = ended_goes kinds rows q p words ∙ trailing_said words rows q p

  -- where what follows a text fails, so does the text
  text_fails : (rows : List Row) (q : Option Use) (p : Place) (word : Text) (rest : Words) → IsPlain word
      → ((now : List Row) (u : Option Use) → end_of kinds (at kinds now u (next_place p) false) rest ≡ None)
      → end_of kinds (at kinds rows q p false) (word ∷ rest) ≡ None
  text_fails rows q first word rest h fails =
      text_taken kinds rows q first false (text_use first (text_key first) refl word) rest refl (plain_met rows q 1 word h) (plain_fault rows q word h)
      ∙ settle_same kinds q rows _ (λ now. None) (λ now. fails now (Some (text_use first (text_key first) refl word))) ∙ none_past kinds rows q
  text_fails rows q second word rest h fails =
      text_taken kinds rows q second false (text_use second (text_key second) refl word) rest refl (plain_met rows q 2 word h) (plain_fault rows q word h)
      ∙ settle_same kinds q rows _ (λ now. None) (λ now. fails now (Some (text_use second (text_key second) refl word))) ∙ none_past kinds rows q
  text_fails rows q third word rest h fails =
      text_taken kinds rows q third false (text_use third (text_key third) refl word) rest refl (plain_met rows q 3 word h) (plain_fault rows q word h)
      ∙ settle_same kinds q rows _ (λ now. None) (λ now. fails now (Some (text_use third (text_key third) refl word))) ∙ none_past kinds rows q
  text_fails rows q beyond word rest h fails =
      text_stray kinds rows q false word rest (plain_met rows q 4 word h) (plain_fault rows q word h)

  -- what gives an option is a fault after one that waits
  apart_blocks : (o : OptionName) → BlocksWaiting (apart_word o)
  unfolding top
  apart_blocks kind_option rows o x = waits_fails rows o x
  apart_blocks budget_option rows o x = waits_fails rows o x
  apart_blocks rounds_option rows o x = waits_fails rows o x
  apart_blocks order_option rows o x = waits_fails rows o x

  joined_blocks : (o : OptionName) (v : Text) → BlocksWaiting (joined_word o v)
  unfolding top
  joined_blocks kind_option v rows o x = waits_blocks rows o _ x
  joined_blocks budget_option v rows o x = waits_blocks rows o _ x
  joined_blocks rounds_option v rows o x = waits_blocks rows o _ x
  joined_blocks order_option v rows o x = waits_blocks rows o _ x

  apart_no_end : (o : OptionName) → bytes_eq (apart_word o) (45 ∷ 45 ∷ []) ≡ false
  apart_no_end kind_option = refl
  apart_no_end budget_option = refl
  apart_no_end rounds_option = refl
  apart_no_end order_option = refl

  joined_no_end : (o : OptionName) (v : Text) → bytes_eq (joined_word o v) (45 ∷ 45 ∷ []) ≡ false
  joined_no_end kind_option v = refl
  joined_no_end budget_option v = refl
  joined_no_end rounds_option v = refl
  joined_no_end order_option v = refl

  -- ---- the words that say nothing

  -- no rows come of the words, wherever the walk over them begins
  abbrev Fails : Words → Type 0
  Fails words = (rows : List Row) (q : Option Use) (p : Place) → end_of kinds (at kinds rows q p false) words ≡ None

  abbrev Reading : Words → Type 0
  Reading words = ((said : List Said) × Says words said) ⊎ Fails words

  -- an option waits at the end of the words, or before words that `--` begins
  waits_past : (words : Words) (rows : List Row) (o : OptionName) (p : Place) → end_of kinds (waits_at kinds rows o p true) words ≡ None
  unfolding end_of top
  waits_past [] rows o p = waits_end kinds rows o p true
  waits_past (word ∷ words) rows o p = waits_value rows o p word (end_of kinds (walked (rules kinds) [] (waits_at kinds rows o p true) word) words)

  -- the words after an option that waits
  abbrev FailsWaiting : Words → Type 0
  FailsWaiting words = (rows : List Row) (o : OptionName) (p : Place) → end_of kinds (waits_at kinds rows o p false) words ≡ None

  fails_apart : (o : OptionName) (words : Words) → FailsWaiting words → Fails (apart_word o ∷ words)
  fails_apart o words h rows q p = apart_waits kinds rows q p o words
      ∙ settle_same kinds q rows _ (λ now. None) (λ now. h now o p) ∙ none_past kinds rows q

  fails_text : (word : Text) (words : Words) → IsPlain word → Fails words → Fails (word ∷ words)
  fails_text word words h fails rows q p = text_fails rows q p word words h (λ now u. fails now u (next_place p))

  fails_joined : (o : OptionName) (v : Text) (words : Words) → Fails words → Fails (joined_word o v ∷ words)
  fails_joined o v words fails rows q p = joined_taken kinds rows q p o v words
      ∙ settle_same kinds q rows _ (λ now. None) (λ now. settle_same kinds (Some (use_of o v)) now _ (λ more. None) (λ more. fails more None p) ∙ none_past kinds now (Some (use_of o v)))
      ∙ none_past kinds rows q

  fails_value : (v : Text) (words : Words) → IsPlain v → Fails words → FailsWaiting (v ∷ words)
  fails_value v words h fails rows o p = waits_taken rows o p v words h ∙ fails rows (Some (use_of o v)) p

  -- the reading of the words, and of those after the first
  pub record Readings (words : Words) : Type 0 where
    pub here : Reading words
    pub later : (o : OptionName) → ((said : List Said) × Says (apart_word o ∷ words) said) ⊎ FailsWaiting words

  read_none : Readings []
  unfolding end_of
  read_none = record { here = inl ([], nothing); later = λ o. inr (λ rows o2 p. waits_end kinds rows o2 p false) }

  read_plain : (word : Text) (words : Words) → IsPlain word → Readings words → Readings (word ∷ words)
  read_plain word words h r = go r.here
    where
      go : Reading words → Readings (word ∷ words)
      go (inl s) = record {
        here = inl (text word ∷ s.0, plain word words s.0 h s.1);
        later = λ o. inl (option o word ∷ s.0, apart o word words s.0 h s.1);
      }
      go (inr fails) = record { here = inr (fails_text word words h fails); later = λ o. inr (fails_value word words h fails) }

  read_end : (words : Words) → Readings (codes "--" ∷ words)
  read_end words = record {
    here = inl (map text words, ended words);
    later = λ o. inr (λ rows o2 p. waits_ended kinds rows o2 p words ∙ waits_past words rows o2 p);
  }

  read_apart : (o : OptionName) (words : Words) → Readings words → Readings (apart_word o ∷ words)
  read_apart o words r = record { here = go (r.later o); later = λ o1. inr (λ rows o2 p. flag_waits rows o2 p (apart_word o) words (apart_no_end o) (apart_blocks o)) }
    where
      go : ((said : List Said) × Says (apart_word o ∷ words) said) ⊎ FailsWaiting words → Reading (apart_word o ∷ words)
      go (inl s) = inl s
      go (inr fails) = inr (fails_apart o words fails)

  read_joined : (o : OptionName) (v : Text) (words : Words) → Readings words → Readings (joined_word o v ∷ words)
  read_joined o v words r = record { here = go r.here; later = λ o1. inr (λ rows o2 p. flag_waits rows o2 p (joined_word o v) words (joined_no_end o v) (joined_blocks o v)) }
    where
      go : Reading words → Reading (joined_word o v ∷ words)
      go (inl s) = inl (option o v ∷ s.0, joined o v words s.0 s.1)
      go (inr fails) = inr (fails_joined o v words fails)

  read_blocked : (word : Text) (words : Words) → IsBlocked kinds word → Readings (word ∷ words)
  read_blocked word words b = record {
    here = inr (λ rows q p. blocked_at rows q p word words b);
    later = λ o. inr (λ rows o2 p. flag_waits rows o2 p word words b.no_end (λ now o3. b.fault now (Some (option_name o3, []))));
  }

  read_word : (word : Text) (words : Words) → WordForm kinds word → Readings words → Readings (word ∷ words)
  read_word word words (plain_form h) r = read_plain word words h r
  read_word word words (end_form e) r = subst (λ (w : Text). Readings (w ∷ words)) (sym e) (read_end words)
  read_word word words (apart_form o e) r = subst (λ (w : Text). Readings (w ∷ words)) (sym e) (read_apart o words r)
  read_word word words (joined_form o v e) r = subst (λ (w : Text). Readings (w ∷ words)) (sym e) (read_joined o v words r)
  read_word word words (blocked_form b) r = read_blocked word words b

  pub readings : (words : Words) → All IsUtf8 words → Readings words
  readings [] utf8 = read_none
  readings (word ∷ words) utf8 = read_word word words (word_form kinds word (utf8 0 word (omega arith))) (readings words (λ k d lt. utf8 (suc k) d (omega arith)))
