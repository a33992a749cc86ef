-- The games that texts stand for, and what is at fault in other texts.
use Rattle.std.specs.Prelude.{◌≡◌, ℕ, ◌++◌, codes, ◌⊎◌}
use Rattle.std.specs.Fmt.{decimal}
use Rattle.zr_game.specs.Games.{game_of}
use Rattle.zr_io.specs.Contents.{Bytes}
use Rattle.zr_source.specs.Sources.{IsLeader, LeaderOf, SourceOf}
use Rattle.zr_follow.specs.Expansion.{IsFirstPast, IsWithinCounts, expansion}
use Rattle.zr_value.specs.declared.fault.GameFault.{GameFault}
use Rattle.zr_value.specs.declared.fault.GameFault.TheVariants.{Count}
use Rattle.zr_read.specs.Texts.{HasFirstFault, StandsFor, source_of}
use Rattle.zero.specs.declared.reading.Reading.{Reading}

-- no leader has too many variables or pairs with its followers' conditions
abbrev pub IsExpandable : SourceOf → Type 0
IsExpandable source =
    (i : ℕ) (leader : LeaderOf) → IsLeader source i leader → IsWithinCounts leader

-- the bytes stand for this game, whose followers' conditions can be added
pub record IsGameText (bytes : Bytes) (source : SourceOf) : Type 0 where
  pub stands : StandsFor bytes source
  pub fits : IsExpandable source

abbrev pub followers_path : ℕ → Bytes
followers_path i = codes "/players/" ++ decimal i ++ codes "/followers"

-- the bytes stand for a game whose first leader with too many variables or pairs is at the path
pub record HasCountFault (bytes : Bytes) (fault : GameFault) (path : Bytes) : Type 0 where
  pub source : SourceOf
  pub stands : StandsFor bytes source
  pub leader : ℕ
  pub first : IsFirstPast source leader
  pub named : fault ≡ Count
  pub at_leader : path ≡ followers_path leader

-- the text's first fault
abbrev pub HasGameFault : Bytes → GameFault → Bytes → Type 0
HasGameFault bytes fault path = HasFirstFault bytes fault path ⊎ HasCountFault bytes fault path

-- what was read from the bytes: the game, and the same with its followers' conditions
pub record IsReading (bytes : Bytes) (reading : Reading) : Type 0 where
  pub text : IsGameText bytes (source_of reading.source)
  pub game : game_of reading.game ≡ expansion (source_of reading.source)
