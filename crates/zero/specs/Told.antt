-- What comes of texts that the shelf tells.
use Rattle.std.specs.Prelude.{◌≡◌, ℕ, ◌≤◌, ◌⊎◌, List}
use Rattle.zr_io.specs.Contents.{Bytes, Contents}
use Rattle.zr_game.specs.declared.kind.Kind.{Kind}
use Rattle.zr_source.specs.Sources.{SourceOf}
use Rattle.zr_follow.specs.Expansion.{expansion}
use Rattle.zr_value.specs.declared.fault.GameFault.{GameFault}
use Rattle.zr_game.specs.Players.{GameOf}
use Rattle.zr_cert.specs.Certs.{CertOf, MixtureOf}
use Rattle.zr_words.specs.Words.{Words}
use Rattle.zero.specs.BestTexts.{IsProfileText}
use Rattle.zero.specs.Commands.{IsGameName, IsMigrate, IsPurpose, IsSolve, Purpose, for_best, for_check}
use Rattle.zero.specs.Games.{HasGameFault, IsGameText}
use Rattle.zero.specs.Reads.{IsTold, cert_limit, game_limit}
use Rattle.zero.specs.Answers.{IsRightText}
use Rattle.zero.specs.Refusals.{IsEndStatus}

-- this status, or that of want of memory, which is free
abbrev pub IsStatus : ℕ → ℕ → Type 0
IsStatus expected status = (status ≡ expected) ⊎ (status ≡ 11)

-- ---- the game

-- the words name a game, whose text is told
pub record IsToldGame (words : Words) (contents : Contents) (bytes : Bytes) : Type 0 where
  pub name : Bytes
  pub named : IsGameName words name
  pub told : IsTold contents game_limit name bytes

-- the game is decided, or the work on it came to an end; want of memory is free
abbrev pub IsSolveStatus : ℕ → Type 0
IsSolveStatus status = (status ≡ 0) ⊎ IsEndStatus status ⊎ (status ≡ 11)

-- the status that the bytes of the game's text settle
pub record IsGameStatus (words : Words) (bytes : Bytes) (status : ℕ) : Type 0 where
  pub faulty : (fault : GameFault) (path : Bytes) → HasGameFault bytes fault path → IsStatus 5 status
  pub solved : (kind : Kind) (budget : ℕ) (name : Bytes) (source : SourceOf)
      → IsSolve words kind budget name → IsGameText bytes source → IsSolveStatus status
  pub migrated : (name : Bytes) (source : SourceOf) → IsMigrate words name
      → IsGameText bytes source → IsStatus 0 status

-- ---- the certificate

-- the words ask for this with two texts that are told, and the game's stands for the game
pub record IsToldCert (words : Words) (contents : Contents) (purpose : Purpose) (source : SourceOf)
    (bytes : Bytes) : Type 0 where
  pub game_name : Bytes
  pub cert_name : Bytes
  pub asks : IsPurpose words purpose game_name cert_name
  pub game_bytes : Bytes
  pub game_told : IsTold contents game_limit game_name game_bytes
  pub text : IsGameText game_bytes source
  pub cert_told : IsTold contents cert_limit cert_name bytes

-- the bytes are right for the purpose: the text of a certificate that is right for the game, or whose
-- verdict is a profile of right strategies
abbrev pub IsRightFor : Purpose → GameOf → Bytes → Type 0
IsRightFor for_check game bytes = (cert : CertOf) × IsRightText game bytes cert
IsRightFor (for_best budget) game bytes =
    (mixtures : List MixtureOf) × IsProfileText game bytes mixtures

-- a check is answered; best answers are given, or the search for them came to an end
abbrev pub IsDone : Purpose → ℕ → Type 0
IsDone for_check status = status ≡ 0
IsDone (for_best budget) status = (status ≡ 0) ⊎ ((7 ≤ status) × (status ≤ 9))

-- the status is one of these where the bytes are right for the purpose in the game with its
-- followers' conditions, and 6 where they aren't; want of memory is free
abbrev pub IsCertStatus : Purpose → SourceOf → Bytes → ℕ → Type 0
IsCertStatus purpose source bytes status =
    (IsDone purpose status × IsRightFor purpose (expansion source) bytes)
    ⊎ ((status ≡ 6) × (IsRightFor purpose (expansion source) bytes → ⊥))
    ⊎ (status ≡ 11)

-- ---- a printed certificate

-- the words ask for a check of these two texts, which are told: a game's and a certificate's
pub record IsToldCheck (words : Words) (contents : Contents) (game cert : Bytes) : Type 0 where
  pub game_name : Bytes
  pub cert_name : Bytes
  pub asks : IsPurpose words for_check game_name cert_name
  pub game_told : IsTold contents game_limit game_name game
  pub cert_told : IsTold contents cert_limit cert_name cert
