-- The arguments of the command line, as `clap` is told of them.
use Rattle.std.specs.Prelude.{◌≡◌, ℕ, pos, List, [], ◌∷◌, map, Some, codes, true}
use Rattle.clap.specs.Words.{App, Kinds, Row, Rule, fault_of, matches_of, new_app, new_rule, with_rule}
use Rattle.clap.specs.Simple.{on_top}
use Rattle.clap.specs.declared.builder.value_parser.ValueParser.{ValueParser}
use Rattle.clap.specs.declared.builder.value_parser.ValueParser.TheVariants as parser
use Rattle.zr_words.specs.Words.{OptionName, Text, Words, budget_option, default_text, kind_option, option_name, order_option, rounds_option}

abbrev pub required_rule : Text → Rule
required_rule name = record (new_rule name) { required = true }

abbrev pub option_rule : OptionName → ValueParser → Rule
option_rule o values = record (new_rule (option_name o)) {
  long = Some (option_name o);
  defaults = default_text o ∷ [];
  parser = Some values;
}

-- whole numbers from 0 on
abbrev pub up_to : ℕ → ValueParser
up_to most = parser.Signed (pos 0) (pos most)

-- the words are without the program's name
abbrev pub as_given : App → App
as_given = on_top (λ s. record s { no_binary_name = true })

-- the command line, with the parser of kinds
unfoldable pub zero_app : ValueParser → App
zero_app kinds = as_given (with_rule (with_rule (with_rule (with_rule (with_rule (with_rule
    (with_rule (new_app (codes "zero"))
    (required_rule (codes "ACTION")))
    (required_rule (codes "GAME")))
    (new_rule (codes "CERT")))
    (option_rule kind_option kinds))
    (option_rule budget_option (up_to 1000000000)))
    (option_rule rounds_option (up_to 10000)))
    (option_rule order_option (up_to 1000000)))

-- the parser takes the names of the two kinds
abbrev pub TakesKinds : ValueParser → Type 0
TakesKinds (parser.Names names) = map (λ n. n.now) names.now ≡ codes "pure" ∷ codes "mixed" ∷ []
TakesKinds _ = ⊥

-- the faults that `clap` finds in the words, and the rows that it reads from them
unfoldable pub zero_fault : ValueParser → Words → Kinds
zero_fault kinds words = fault_of (zero_app kinds) words

unfoldable pub zero_rows : ValueParser → Words → List Row
zero_rows kinds words = matches_of (zero_app kinds) words
