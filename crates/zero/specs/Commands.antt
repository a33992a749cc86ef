-- What the words of the command line ask for.
use Rattle.std.specs.Prelude.{◌≡◌, ◌⊎◌, ℕ}
use Rattle.zr_game.specs.declared.kind.Kind.{Kind}
use Rattle.zr_io.specs.Contents.{Bytes}
use Rattle.zr_words.specs.Words.{Words}
use Rattle.zr_words.specs.Commands.{Asks}
use Rattle.zr_words.specs.declared.command.Command.{Command}
use Rattle.zr_words.specs.declared.command.Command.TheVariants.{Solve, Check, Best, Migrate}

-- the command is to solve the game under this name, for this kind of strategies, within this budget
abbrev pub IsSolveOf : Kind → ℕ → Bytes → Command → Type 0
IsSolveOf kind budget name (Solve game options) =
    (game.now ≡ name) × (options.kind ≡ kind) × (options.budget ≡ budget)
IsSolveOf kind budget name (Check game cert) = ⊥
IsSolveOf kind budget name (Best game cert options) = ⊥
IsSolveOf kind budget name (Migrate game) = ⊥

-- the command is to check the certificate for the game, each under its name
abbrev pub IsCheckOf : Bytes → Bytes → Command → Type 0
IsCheckOf name other (Solve game options) = ⊥
IsCheckOf name other (Check game cert) = (game.now ≡ name) × (cert.now ≡ other)
IsCheckOf name other (Best game cert options) = ⊥
IsCheckOf name other (Migrate game) = ⊥

-- the command is to say what each player of the game can get at best against the certificate's
-- profile, within this budget
abbrev pub IsBestOf : ℕ → Bytes → Bytes → Command → Type 0
IsBestOf budget name other (Solve game options) = ⊥
IsBestOf budget name other (Check game cert) = ⊥
IsBestOf budget name other (Best game cert options) =
    (game.now ≡ name) × (cert.now ≡ other) × (options.budget ≡ budget)
IsBestOf budget name other (Migrate game) = ⊥

-- the command is to write the text in today's form of the game under this name
abbrev pub IsMigrateOf : Bytes → Command → Type 0
IsMigrateOf name (Solve game options) = ⊥
IsMigrateOf name (Check game cert) = ⊥
IsMigrateOf name (Best game cert options) = ⊥
IsMigrateOf name (Migrate game) = game.now ≡ name

-- the words ask for an equilibrium of the kind, within this budget
abbrev pub IsSolve : Words → Kind → ℕ → Bytes → Type 0
IsSolve words kind budget name =
    (command : Command) × Asks words command × IsSolveOf kind budget name command

abbrev pub IsCheck : Words → Bytes → Bytes → Type 0
IsCheck words name cert = (command : Command) × Asks words command × IsCheckOf name cert command

abbrev pub IsBest : Words → ℕ → Bytes → Bytes → Type 0
IsBest words budget name cert =
    (command : Command) × Asks words command × IsBestOf budget name cert command

abbrev pub IsMigrate : Words → Bytes → Type 0
IsMigrate words name = (command : Command) × Asks words command × IsMigrateOf name command

-- what a certificate is for: a check of it, or best answers to its profile within this budget
pub data Purpose : Type 0 where
  for_check : Purpose
  for_best : ℕ → Purpose

-- the words ask for this of a game and a certificate, each under its name
abbrev pub IsPurpose : Words → Purpose → Bytes → Bytes → Type 0
IsPurpose words for_check name cert = IsCheck words name cert
IsPurpose words (for_best budget) name cert = IsBest words budget name cert

-- the words ask for something of the game under this name
abbrev pub IsGameName : Words → Bytes → Type 0
IsGameName words name =
    ((kind : Kind) × (budget : ℕ) × IsSolve words kind budget name)
    ⊎ ((purpose : Purpose) × (cert : Bytes) × IsPurpose words purpose name cert)
    ⊎ IsMigrate words name
