-- The arguments as `clap` builds them.
use Rattle.std.proofs.Common.{◌≡◌, ℕ, Bool, true, false, List, [], ◌∷◌, Option, Some, None, refl, ap₂, ◌∙◌, codes}
use Rattle.clap.specs.Words.{App, Rule, Text, is_simple, is_simple_and_free, new_rule}
use Rattle.clap.specs.Walk.{walk, finished, nothing_held, rows_after, arg_by_id}
use Rattle.clap.specs.Simple.{Shape, argument_words, built, filled, names_of, help_rule, new_shape}
use Rattle.clap.specs.Faults.{built_fault, level_fault}
use Rattle.clap.proofs.FaultLemmas.{leaf_fault}
use Rattle.clap.proofs.OnLiterals.{clap_on_literals}
use Rattle.clap.specs.declared.builder.action.ArgAction.TheVariants.{Set}
use Rattle.clap.specs.declared.builder.value_parser.ValueParser.{ValueParser}
use Rattle.clap.specs.declared.builder.value_parser.ValueParser.TheVariants as parser
use Rattle.zr_words.specs.Words.{OptionName, Words, kind_option, budget_option, rounds_option, order_option, option_name, default_text}
use Rattle.zr_words.specs.Arguments.{up_to, zero_app, zero_fault, zero_rows}

-- ---- the places of the texts

pub data Place : Type 0 where
  first : Place
  second : Place
  third : Place
  beyond : Place

abbrev pub place_number : Place → ℕ
place_number first = 1
place_number second = 2
place_number third = 3
place_number beyond = 4

abbrev pub next_place : Place → Place
next_place first = second
next_place second = third
next_place third = beyond
next_place beyond = beyond

-- ---- the arguments that take a value

pub data Key : Type 0 where
  text_key : Place → Key
  option_key : OptionName → Key

abbrev pub place_id : Place → Text
place_id first = codes "ACTION"
place_id second = codes "GAME"
place_id third = codes "CERT"
place_id beyond = []

abbrev pub key_id : Key → Text
key_id (text_key p) = place_id p
key_id (option_key o) = option_name o

abbrev pub key_long : Key → Option Text
key_long (text_key p) = None
key_long (option_key o) = Some (option_name o)

abbrev pub key_index : Key → Option ℕ
key_index (text_key p) = Some (place_number p)
key_index (option_key o) = None

abbrev pub key_defaults : Key → List Text
key_defaults (text_key p) = []
key_defaults (option_key o) = default_text o ∷ []

abbrev pub option_parser : ValueParser → OptionName → ValueParser
option_parser kinds kind_option = kinds
option_parser kinds budget_option = up_to 1000000000
option_parser kinds rounds_option = up_to 10000
option_parser kinds order_option = up_to 1000000

abbrev pub key_parser : ValueParser → Key → ValueParser
key_parser kinds (text_key p) = parser.String
key_parser kinds (option_key o) = option_parser kinds o

abbrev pub is_needed : Place → Bool
is_needed first = true
is_needed second = true
is_needed third = false
is_needed beyond = false

abbrev pub key_required : Key → Bool
key_required (text_key p) = is_needed p
key_required (option_key o) = false

abbrev pub key_rule : ValueParser → Key → Rule
key_rule kinds k = record (new_rule (key_id k)) {
  long = key_long k;
  index = key_index k;
  action = Some Set;
  range = Some (record { start_inclusive = 1; end_inclusive = 1 });
  defaults = key_defaults k;
  parser = Some (key_parser kinds k);
  required = key_required k;
}

abbrev pub built_rules : ValueParser → List Rule
built_rules kinds = key_rule kinds (text_key first) ∷ key_rule kinds (text_key second)
    ∷ key_rule kinds (text_key third) ∷ key_rule kinds (option_key kind_option)
    ∷ key_rule kinds (option_key budget_option) ∷ key_rule kinds (option_key rounds_option)
    ∷ key_rule kinds (option_key order_option) ∷ filled help_rule ∷ []

unfoldable pub top : ValueParser → Shape
top kinds = record (new_shape (codes "zero")) {
  rules = built_rules kinds;
  no_binary_name = true;
  disable_help_subcommand = true;
  is_built = true;
}

abbrev pub rules : ValueParser → List Rule
rules kinds = (top kinds).rules

abbrev built_app : ValueParser → App
built_app kinds = record { top = top kinds; subs = [] }

built_is : (kinds : ValueParser) → built (zero_app kinds) ≡ built_app kinds
unfolding zero_app top
built_is kinds = refl

words_are : (kinds : ValueParser) (words : Words) → argument_words (zero_app kinds) words ≡ words
unfolding zero_app
words_are kinds words = refl

pub fault_is : (kinds : ValueParser) (words : Words)
    → zero_fault kinds words ≡ level_fault (top kinds) [] nothing_held words false []
unfolding zero_fault
fault_is kinds words =
    ap₂ (λ (b : App) (ws : Words). built_fault b nothing_held ws) (built_is kinds) (words_are kinds words)
    ∙ leaf_fault (built_app kinds) nothing_held words refl

pub rows_are : (kinds : ValueParser) (words : Words)
    → zero_rows kinds words ≡ finished (rules kinds) (walk (rules kinds) [] nothing_held words).held
unfolding zero_rows
rows_are kinds words =
    ap₂ (λ (b : App) (ws : Words). rows_after b.top.rules (names_of b) ws) (built_is kinds) (words_are kinds words)

pub is_free : (kinds : ValueParser) → is_simple_and_free (zero_app kinds) ≡ true
unfolding zero_app clap_on_literals
is_free kinds = refl

pub simple : (kinds : ValueParser) → is_simple (zero_app kinds) ≡ true
unfolding zero_app clap_on_literals
simple kinds = refl

-- ---- the argument of a place, and of an id

abbrev pub place_key : Place → Option Key
place_key first = Some (text_key first)
place_key second = Some (text_key second)
place_key third = Some (text_key third)
place_key beyond = None

pub by_id : (kinds : ValueParser) (k : Key) → (k ≡ text_key beyond → ⊥)
    → arg_by_id (rules kinds) (key_id k) ≡ Some (key_rule kinds k)
unfolding top
by_id kinds (text_key first) h = refl
by_id kinds (text_key second) h = refl
by_id kinds (text_key third) h = refl
by_id kinds (text_key beyond) h = absurd (h refl)
by_id kinds (option_key kind_option) h = refl
by_id kinds (option_key budget_option) h = refl
by_id kinds (option_key rounds_option) h = refl
by_id kinds (option_key order_option) h = refl
