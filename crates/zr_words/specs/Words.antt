-- The words of a command line, and what they say.
use Rattle.std.specs.Prelude.{ℕ, Bool, false, not, ◌||◌, ◌==◌, IsTrue, if◌then◌else◌, List, [], ◌∷◌, ◌++◌, map, codes, bytes_eq, String, string_bytes}
use Rattle.std.specs.declared.alloc.Global.{Global}

abbrev pub Text : Type 0
Text = List ℕ

-- the words of a command line without the program's name
abbrev pub Words : Type 0
Words = List Text

-- the bytes of each word
abbrev pub spelled : List (String Global) → Words
spelled = map string_bytes

-- ---- options

pub data OptionName : Type 0 where
  kind_option : OptionName
  budget_option : OptionName
  rounds_option : OptionName
  order_option : OptionName

abbrev pub option_name : OptionName → Text
option_name kind_option = codes "kind"
option_name budget_option = codes "budget"
option_name rounds_option = codes "rounds"
option_name order_option = codes "order"

-- the value of an option that isn't given
abbrev pub default_text : OptionName → Text
default_text kind_option = codes "mixed"
default_text budget_option = codes "1000000"
default_text rounds_option = codes "20"
default_text order_option = codes "0"

-- ---- what the words say

-- the byte is a hyphen
abbrev pub is_hyphen : ℕ → Bool
is_hyphen b = b == 45

abbrev pub begins_with_hyphen : Text → Bool
begins_with_hyphen [] = false
begins_with_hyphen (b ∷ bs) = is_hyphen b

-- the word is `-`, or begins with no hyphen
abbrev pub IsPlain : Text → Type 0
IsPlain word = IsTrue (not (begins_with_hyphen word) || bytes_eq word (codes "-"))

-- what words say one after another: a text, or the value of an option
pub data Said : Type 0 where
  text : Text → Said
  option : OptionName → Text → Said

-- the words say these things in this order: a plain word is a text; an option is given as
-- `--NAME=VALUE`, or as `--NAME` and a plain word; after `--` each word is a text
pub data Says : Words → List Said → Type 0 where
  nothing : Says [] []
  plain : (word : Text) (words : Words) (said : List Said) → IsPlain word → Says words said
      → Says (word ∷ words) (text word ∷ said)
  joined : (o : OptionName) (value : Text) (words : Words) (said : List Said) → Says words said
      → Says ((codes "--" ++ option_name o ++ codes "=" ++ value) ∷ words) (option o value ∷ said)
  apart : (o : OptionName) (value : Text) (words : Words) (said : List Said) → IsPlain value
      → Says words said
      → Says ((codes "--" ++ option_name o) ∷ value ∷ words) (option o value ∷ said)
  ended : (words : Words) → Says (codes "--" ∷ words) (map text words)

-- the texts that are said, in their order
abbrev pub texts_of : List Said → List Text
texts_of [] = []
texts_of (text word ∷ said) = word ∷ texts_of said
texts_of (option o value ∷ said) = texts_of said

-- the values that are said of the option of this name, in their order
abbrev pub values_named : Text → List Said → List Text
values_named name [] = []
values_named name (text word ∷ said) = values_named name said
values_named name (option o value ∷ said) =
    if bytes_eq (option_name o) name then value ∷ values_named name said
    else values_named name said
