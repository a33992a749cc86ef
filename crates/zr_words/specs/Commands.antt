-- What the words of a command line ask for.
use Rattle.std.specs.Prelude.{◌≡◌, ◌⊎◌, ℕ, ◌≤◌, pos, List, [], ◌∷◌, length, codes}
use Rattle.std.specs.Str.Parse.{IsNumeral, signed_digits_value, without_leading_sign}
use Rattle.zr_game.specs.declared.kind.Kind.{Kind}
use Rattle.zr_game.specs.declared.kind.Kind.TheVariants.{Pure, Mixed}
use Rattle.zr_words.specs.declared.command.Command.{Command}
use Rattle.zr_words.specs.declared.command.Command.TheVariants.{Solve, Check, Best, Migrate}
use Rattle.zr_words.specs.declared.command.Options.{Options}
use Rattle.zr_words.specs.Words.{OptionName, Said, Says, Text, Words, budget_option, default_text, kind_option, option_name, order_option, rounds_option, texts_of, values_named}

abbrev pub kind_name : Kind → Text
kind_name Pure = codes "pure"
kind_name Mixed = codes "mixed"

-- the option has this value: it is given once, or isn't given and has its default
abbrev pub IsValue : List Said → OptionName → Text → Type 0
IsValue said o value = (values_named (option_name o) said ≡ value ∷ [])
    ⊎ ((values_named (option_name o) said ≡ []) × (value ≡ default_text o))

-- a whole number from 0 to `most` in decimal digits, before which a sign may stand
pub record IsNumber (most : ℕ) (text : Text) (number : ℕ) : Type 0 where
  pub digits : IsNumeral 10 (without_leading_sign text)
  pub value : signed_digits_value 10 text ≡ pos number
  pub within : number ≤ most

-- the option has this number
abbrev pub HasNumber : List Said → OptionName → ℕ → ℕ → Type 0
HasNumber said o most number = (value : Text) × IsValue said o value × IsNumber most value number

-- the options that are said, and the defaults of those that aren't
pub record AreOptions (said : List Said) (options : Options) : Type 0 where
  pub kind : IsValue said kind_option (kind_name options.kind)
  pub budget : HasNumber said budget_option 1000000000 options.budget
  pub rounds : HasNumber said rounds_option 10000 options.rounds
  pub order : HasNumber said order_option 1000000 options.order

-- the words have the form of a command line: they say two or three texts, and options
pub record HaveForm (words : Words) (said : List Said) (options : Options) : Type 0 where
  pub says : Says words said
  pub least : 2 ≤ length (texts_of said)
  pub most : length (texts_of said) ≤ 3
  pub chosen : AreOptions said options

-- the words have the form of a command line
abbrev pub HaveSomeForm : Words → Type 0
HaveSomeForm words = (said : List Said) × (options : Options) × HaveForm words said options

-- the words have no such form
abbrev pub IsMisspelt : Words → Type 0
IsMisspelt words = (said : List Said) (options : Options) → HaveForm words said options → ⊥

-- the texts ask for the command, under these options
abbrev pub IsAction : List Text → Options → Command → Type 0
IsAction texts options (Solve game own) =
    (texts ≡ codes "solve" ∷ game.now ∷ []) × (own ≡ options)
IsAction texts options (Check game cert) = texts ≡ codes "check" ∷ game.now ∷ cert.now ∷ []
IsAction texts options (Best game cert own) =
    (texts ≡ codes "best" ∷ game.now ∷ cert.now ∷ []) × (own ≡ options)
IsAction texts options (Migrate game) = texts ≡ codes "migrate" ∷ game.now ∷ []

-- the texts are of no action
abbrev pub IsNoAction : List Text → Type 0
IsNoAction texts = (options : Options) (command : Command) → IsAction texts options command → ⊥

-- the words ask for the command
pub record Asks (words : Words) (command : Command) : Type 0 where
  pub said : List Said
  pub options : Options
  pub form : HaveForm words said options
  pub action : IsAction (texts_of said) options command

-- the words ask for nothing
abbrev pub IsFaulty : Words → Type 0
IsFaulty words = (command : Command) → Asks words command → ⊥

-- the words have the form of a command line, but ask for nothing
abbrev pub AreOfNoAction : Words → Type 0
AreOfNoAction words = HaveSomeForm words × IsFaulty words

-- ---- how many forms and commands words have

-- what words say in the form of a command line, and the options, are settled
abbrev pub HaveOneForm : Type 0
HaveOneForm = (words : Words) (said other : List Said) (options choice : Options)
    → HaveForm words said options → HaveForm words other choice
    → (said ≡ other) × (options ≡ choice)

-- the commands are of one action, for the same names and under the same options
abbrev pub IsSameCommand : Command → Command → Type 0
IsSameCommand (Solve game options) (Solve other choice) =
    (game.now ≡ other.now) × (options ≡ choice)
IsSameCommand (Check game cert) (Check other second) =
    (game.now ≡ other.now) × (cert.now ≡ second.now)
IsSameCommand (Best game cert options) (Best other second choice) =
    (game.now ≡ other.now) × (cert.now ≡ second.now) × (options ≡ choice)
IsSameCommand (Migrate game) (Migrate other) = game.now ≡ other.now
IsSameCommand _ _ = ⊥

-- words ask for one command at most
abbrev pub AskForOneCommand : Type 0
AskForOneCommand = (words : Words) (command other : Command) → Asks words command
    → Asks words other → IsSameCommand command other
