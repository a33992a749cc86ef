-- What was taken from the shelf: the texts that the words name.
use Rattle.std.specs.Prelude.{◌≡◌, ℕ, ◌≤◌, length, Option, Some, None}
use Rattle.zr_io.specs.Contents.{Bytes, Contents, HoldsMore}
use Rattle.zr_io.specs.Faults.{next_count}
use Rattle.zr_source.specs.Sources.{SourceOf}
use Rattle.zr_words.specs.Words.{Words}
use Rattle.zero.specs.declared.text.Text.{Text}
use Rattle.zero.specs.declared.text.Text.TheVariants.{Game, Cert}
use Rattle.zero.specs.Commands.{IsGameName, IsPurpose, Purpose}
use Rattle.zero.specs.Games.{IsGameText}

-- the greatest length of a game text
abbrev pub game_limit : ℕ
game_limit = 8388608

-- the greatest length of a certificate text
abbrev pub cert_limit : ℕ
cert_limit = 67108864

abbrev pub limit_of : Text → ℕ
limit_of Game = game_limit
limit_of Cert = cert_limit

-- the text was the last to be taken: a game's is the first take, a certificate's the second
abbrev pub IsLastTake : Text → ℕ → ℕ → Type 0
IsLastTake Game before after = after ≡ next_count before
IsLastTake Cert before after = after ≡ next_count (next_count before)

-- ---- contents

-- the shelf tells that it lacks the name
pub record Lacks (contents : Contents) (name : Bytes) : Type 0 where
  pub get : Bytes → Option Bytes
  pub told : contents ≡ Some get
  pub none : get name ≡ None

-- the shelf tells that the name holds these bytes, at most so many
pub record IsTold (contents : Contents) (limit : ℕ) (name bytes : Bytes) : Type 0 where
  pub get : Bytes → Option Bytes
  pub told : contents ≡ Some get
  pub holds : get name ≡ Some bytes
  pub within : length bytes ≤ limit

-- where the shelf tells its contents, the name holds these bytes
abbrev pub IsContent : Contents → Bytes → Bytes → Type 0
IsContent contents name bytes = (get : Bytes → Option Bytes) → contents ≡ Some get → get name ≡ Some bytes

-- these bytes were read under the name, at most so many; where the shelf tells nothing, any bytes may have been
pub record IsRead (contents : Contents) (limit : ℕ) (name bytes : Bytes) : Type 0 where
  pub content : IsContent contents name bytes
  pub within : length bytes ≤ limit

-- where the shelf tells its contents, the name holds more bytes than a text may have
abbrev pub IsMore : Contents → ℕ → Bytes → Type 0
IsMore contents limit name = (get : Bytes → Option Bytes) → contents ≡ Some get → HoldsMore get name limit

-- ---- names

-- the words ask for this with the certificate under this name, and the game text that was read
-- stands for the game
pub record IsDueCert (words : Words) (contents : Contents) (purpose : Purpose) (source : SourceOf)
    (name : Bytes) : Type 0 where
  pub game_name : Bytes
  pub asks : IsPurpose words purpose game_name name
  pub bytes : Bytes
  pub read : IsRead contents game_limit game_name bytes
  pub text : IsGameText bytes source

-- the text under this name is due: a game that the words name, or a certificate once the game text
-- stands for a game
abbrev pub IsDue : Words → Contents → Text → Bytes → Type 0
IsDue words contents Game name = IsGameName words name
IsDue words contents Cert name =
    (purpose : Purpose) × (source : SourceOf) × IsDueCert words contents purpose source name

-- a text that is due is too long
pub record IsLong (words : Words) (contents : Contents) (text : Text) (name : Bytes) : Type 0 where
  pub due : IsDue words contents text name
  pub more : IsMore contents (limit_of text) name
