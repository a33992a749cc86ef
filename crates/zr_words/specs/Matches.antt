-- What `clap` reads from words is what they say.
use Rattle.std.specs.Prelude.{◌≡◌, ◌⊎◌, ◌↔◌, ◌≤◌, ℕ, pos, List, [], Some, codes, IsUtf8, slice_get, length}
use Rattle.std.specs.List.{All}
use Rattle.clap.specs.Words.{Row, first_of, one_of, without_minus}
use Rattle.clap.specs.Values.{IsSignedIn}
use Rattle.clap.specs.declared.builder.value_parser.ValueParser.{ValueParser}
use Rattle.zr_words.specs.declared.command.Options.{Options}
use Rattle.zr_words.specs.declared.reading.Refused.{Refused}
use Rattle.zr_words.specs.declared.reading.Refused.TheVariants.{Form, Action, NoMemory}
use Rattle.zr_words.specs.Words.{OptionName, Said, Says, Text, Words, budget_option, kind_option, option_name, order_option, rounds_option, texts_of}
use Rattle.zr_words.specs.Commands.{AreOfNoAction, HaveForm, HaveSomeForm, IsMisspelt, IsValue}
use Rattle.zr_words.specs.Arguments.{TakesKinds, zero_fault, zero_rows}

-- the option's value is a number from 0 to `most`, and stands in the rows
pub record IsNumberRow (rows : List Row) (said : List Said) (o : OptionName) (most : ℕ) : Type 0 where
  pub value : Text
  pub is_value : IsValue said o value
  pub read : one_of (option_name o) rows ≡ Some (without_minus value)
  pub number : IsSignedIn (pos 0) (pos most) value

-- the kind is one of the two, and stands in the rows
pub record IsKindRow (rows : List Row) (said : List Said) : Type 0 where
  pub value : Text
  pub is_value : IsValue said kind_option value
  pub read : first_of (option_name kind_option) rows ≡ Some value
  pub kind : (value ≡ codes "pure") ⊎ (value ≡ codes "mixed")

-- the rows hold the texts, and the values of the options
pub record AreRowsOf (rows : List Row) (said : List Said) : Type 0 where
  pub action : first_of (codes "ACTION") rows ≡ slice_get (texts_of said) 0
  pub game : first_of (codes "GAME") rows ≡ slice_get (texts_of said) 1
  pub cert : first_of (codes "CERT") rows ≡ slice_get (texts_of said) 2
  pub kind : IsKindRow rows said
  pub budget : IsNumberRow rows said budget_option 1000000000
  pub rounds : IsNumberRow rows said rounds_option 10000
  pub order : IsNumberRow rows said order_option 1000000

-- `clap` finds no fault exactly in words that have the form of a command line, and its rows hold
-- what those say
abbrev pub IsReadByClap : Type 0
IsReadByClap = (kinds : ValueParser) → TakesKinds kinds → (words : Words) → All IsUtf8 words
    → ((zero_fault kinds words ≡ []) ↔ HaveSomeForm words)
    × ((said : List Said) (options : Options) → HaveForm words said options
    → AreRowsOf (zero_rows kinds words) said)

-- the rows are of words that have the form of a command line, and hold whatever they say in it
pub record AreRead (words : Words) (rows : List Row) : Type 0 where
  pub said : List Said
  pub says : Says words said
  pub least : 2 ≤ length (texts_of said)
  pub most : length (texts_of said) ≤ 3
  pub rows_are : AreRowsOf rows said
  pub each : (other : List Said) (options : Options) → HaveForm words other options
      → AreRowsOf rows other

-- why words ask for nothing
abbrev pub IsRefusal : Words → Refused → Type 0
IsRefusal words (Form text) = IsMisspelt words
IsRefusal words Action = AreOfNoAction words
IsRefusal words NoMemory = Unit {0}
