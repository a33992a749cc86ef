-- What an answer says, and why there is none.
use Rattle.std.specs.Prelude.{◌≡◌, ℕ, true, List, ◌≤◌, ◌++◌, length, Option, codes, ◌⊎◌}
use Rattle.zr_game.specs.Players.{GameOf}
use Rattle.zr_game.specs.Profiles.{IsOfKind}
use Rattle.zr_game.specs.declared.kind.Kind.{Kind}
use Rattle.zr_game.specs.declared.kind.Kind.TheVariants.{Pure, Mixed}
use Rattle.zr_io.specs.Contents.{Bytes, Contents}
use Rattle.zr_io.specs.Written.{AppendsPrefix}
use Rattle.zr_source.specs.Sources.{SourceOf}
use Rattle.zr_source.specs.SourceEquilibria.{HasNoSourceEquilibrium, IsSourceEquilibrium}
use Rattle.zr_follow.specs.Expansion.{expansion}
use Rattle.zr_follow.specs.BaseParts.{base_profile}
use Rattle.zr_value.specs.declared.fault.GameFault.{GameFault}
use Rattle.zr_read.specs.Texts.{StandsFor}
use Rattle.zr_write.specs.Written.{IsWritten}
use Rattle.zr_drive.specs.Ends.{IsEndOf}
use Rattle.zr_cert.specs.declared.fault.CertFault.{CertFault}
use Rattle.zr_cert.specs.declared.fault.CertFault.TheVariants as checks
use Rattle.zr_cert.specs.Certs.{BoxVerdict, CertOf, CoverVerdict, EmptyVerdict, MixtureOf, ProfileVerdict, VerdictOf, profile_with}
use Rattle.zr_check.specs.Right.{IsRightCert}
use Rattle.zr_check.specs.Checks.{CertRefused, HeadRefused}
use Rattle.zr_check.specs.WideSteps.{HasWideStep}
use Rattle.zr_text.specs.declared.fault.TextError.TheVariants as texts
use Rattle.zr_text.specs.Faults.{IsText, IsTextFault}
use Rattle.zr_report.specs.declared.end.End.{End}
use Rattle.zr_report.specs.Spelling.{report_text}
use Rattle.zr_words.specs.Words.{Words}
use Rattle.zero.specs.BestTexts.{IsBestEnd, IsBestReply, IsProfileText}
use Rattle.zero.specs.Commands.{IsGameName, IsMigrate, IsSolve, Purpose, for_best, for_check}
use Rattle.zero.specs.Games.{HasGameFault, IsGameText}
use Rattle.zero.specs.Reads.{IsDueCert, IsRead, cert_limit, game_limit}
use Rattle.zero.specs.Endings.{line}
use Rattle.zero.specs.declared.text.Text.{Text}
use Rattle.zero.specs.declared.text.Text.TheVariants.{Game, Cert}
use Rattle.zero.specs.declared.refusal.CertFlaw.{CertFlaw}
use Rattle.zero.specs.declared.refusal.CertFlaw.TheVariants.{Form, Number, Wrong, Wide}

-- ---- check

abbrev pub kind_name : Kind → Bytes
kind_name Pure = codes "pure"
kind_name Mixed = codes "mixed"

abbrev pub verdict_name : VerdictOf → Bytes
verdict_name (ProfileVerdict mixtures bounds) = codes "profile"
verdict_name (CoverVerdict covers named proof) = codes "none"
verdict_name (EmptyVerdict i nodes) = codes "none"
verdict_name (BoxVerdict nodes) = codes "none"

abbrev pub accepted_text : CertOf → Bytes
accepted_text c = line (codes "accepted " ++ kind_name c.kind ++ codes " " ++ verdict_name c.verdict)

-- the bytes are the text of this certificate, which is right for the game, and no step of its check
-- is too wide
pub record IsRightText (game : GameOf) (bytes : Bytes) (cert : CertOf) : Type 0 where
  pub is_text : IsText cert bytes
  pub right : IsRightCert game cert
  pub narrow : HasWideStep game cert → ⊥

-- the profile, without its multipliers, is an equilibrium of the kind, in which followers answer
-- optimally, or no profile of the kind is one
abbrev pub IsTrueOf : SourceOf → Kind → VerdictOf → Type 0
IsTrueOf source kind (ProfileVerdict mixtures bounds) =
    IsOfKind kind (base_profile source (profile_with mixtures))
    × IsSourceEquilibrium source (base_profile source (profile_with mixtures))
IsTrueOf source kind (CoverVerdict covers named proof) = HasNoSourceEquilibrium source kind
IsTrueOf source kind (EmptyVerdict i nodes) = HasNoSourceEquilibrium source kind
IsTrueOf source kind (BoxVerdict nodes) = HasNoSourceEquilibrium source kind

-- the bytes are of a certificate that is right for the game with its followers' conditions, its
-- verdict is true of the game as it was read, and the text says so
pub record IsAccepted (source : SourceOf) (bytes text : Bytes) : Type 0 where
  pub cert : CertOf
  pub shown : IsRightText (expansion source) bytes cert
  pub truth : IsTrueOf source cert.kind cert.verdict
  pub answer : text ≡ accepted_text cert

-- the words ask for this with a certificate, the game text that was read stands for the game, and
-- these bytes of a certificate were read
pub record IsAskedCert (words : Words) (contents : Contents) (purpose : Purpose) (source : SourceOf)
    (bytes : Bytes) : Type 0 where
  pub name : Bytes
  pub due : IsDueCert words contents purpose source name
  pub read : IsRead contents cert_limit name bytes

pub record IsChecked (words : Words) (contents : Contents) (text : Bytes) : Type 0 where
  pub source : SourceOf
  pub bytes : Bytes
  pub asked : IsAskedCert words contents for_check source bytes
  pub accepted : IsAccepted source bytes text

-- ---- solve

-- the text is that of a certificate of the kind that is right for the game with its followers'
-- conditions, so that a check accepts it, and its verdict is true of the game as it was read
pub record IsDecided (source : SourceOf) (kind : Kind) (text : Bytes) : Type 0 where
  pub cert : CertOf
  pub kind_is : cert.kind ≡ kind
  pub shown : IsRightText (expansion source) text cert
  pub within : length text ≤ cert_limit
  pub truth : IsTrueOf source kind cert.verdict

-- the words ask for an equilibrium of the kind, within this budget, and the game text that was read
-- stands for the game
pub record IsAskedSolve (words : Words) (contents : Contents) (kind : Kind) (budget : ℕ)
    (source : SourceOf) : Type 0 where
  pub name : Bytes
  pub bytes : Bytes
  pub solve : IsSolve words kind budget name
  pub read : IsRead contents game_limit name bytes
  pub game : IsGameText bytes source

-- they ask for it, and the text decides the game
pub record IsSolved (words : Words) (contents : Contents) (text : Bytes) : Type 0 where
  pub kind : Kind
  pub budget : ℕ
  pub source : SourceOf
  pub asked : IsAskedSolve words contents kind budget source
  pub decided : IsDecided source kind text

-- they ask for it, and the work comes to this end
pub record IsUndecided (words : Words) (contents : Contents) (end : End) : Type 0 where
  pub kind : Kind
  pub budget : ℕ
  pub source : SourceOf
  pub asked : IsAskedSolve words contents kind budget source
  pub cause : IsEndOf (expansion source) kind budget end

-- ---- best answers

-- the words ask for best answers to the profile of the certificate that was read, in the game with
-- its followers' conditions
pub record IsBestAnswered (words : Words) (contents : Contents) (text : Bytes) : Type 0 where
  pub budget : ℕ
  pub source : SourceOf
  pub bytes : Bytes
  pub asked : IsAskedCert words contents (for_best budget) source bytes
  pub best : IsBestReply source bytes text

-- they ask for them, and the work comes to this end
pub record IsUnanswered (words : Words) (contents : Contents) (end : End) : Type 0 where
  pub budget : ℕ
  pub source : SourceOf
  pub bytes : Bytes
  pub asked : IsAskedCert words contents (for_best budget) source bytes
  pub mixtures : List MixtureOf
  pub profile : IsProfileText (expansion source) bytes mixtures
  pub cause : IsBestEnd (expansion source) mixtures budget end

-- ---- migrate

-- the text is the canonical one, in format 2, of the game for which the bytes stand, and stands for
-- it
pub record IsSameGame (bytes text : Bytes) : Type 0 where
  pub source : SourceOf
  pub game : IsGameText bytes source
  pub canonical : IsWritten true source text
  pub stands : StandsFor text source

-- the words ask for the text in today's form of the game that was read
pub record IsMigrated (words : Words) (contents : Contents) (text : Bytes) : Type 0 where
  pub name : Bytes
  pub bytes : Bytes
  pub migrate : IsMigrate words name
  pub read : IsRead contents game_limit name bytes
  pub same : IsSameGame bytes text

-- ---- answers and refusals

-- the work on what the words ask for comes to this end, once this text was taken: the game's, of
-- which an equilibrium is asked for, or the certificate's, to which best answers are
abbrev pub IsEnded : Words → Contents → Text → End → Type 0
IsEnded words contents Game end = IsUndecided words contents end
IsEnded words contents Cert end = IsUnanswered words contents end

-- a true answer to the words
abbrev pub IsAnswer : Words → Contents → Bytes → Type 0
IsAnswer words contents text =
    IsSolved words contents text ⊎ IsChecked words contents text
    ⊎ IsBestAnswered words contents text ⊎ IsMigrated words contents text

-- a true report of why there is none
abbrev pub IsReport : Words → Contents → Bytes → Type 0
IsReport words contents text =
    (last : Text) × (end : End) × IsEnded words contents last end × (text ≡ report_text end)

-- a prefix of a true answer, or of a true report, went to the end of what was written before
pub record HasBegun (words : Words) (contents : Contents) (before after : Option Bytes) : Type 0 where
  pub text : Bytes
  pub true_text : IsAnswer words contents text ⊎ IsReport words contents text
  pub written : AppendsPrefix before text after

-- the game text that was read has this first fault
pub record IsFaultyGame (words : Words) (contents : Contents) (fault : GameFault) (path : Bytes)
    : Type 0 where
  pub name : Bytes
  pub bytes : Bytes
  pub named : IsGameName words name
  pub read : IsRead contents game_limit name bytes
  pub first : HasGameFault bytes fault path

-- a line of the certificate is the first to be refused; for best answers the lines are those of the
-- players and their parts, and a verdict that is no profile is refused too
abbrev pub IsRefusedFor : Purpose → GameOf → CertOf → CertFault → Type 0
IsRefusedFor for_check game c fault = CertRefused game c fault
IsRefusedFor (for_best budget) game c fault = HeadRefused game c fault

-- why a certificate text is refused at a line: it is out of form, a number's size alone is at fault,
-- or the certificate that it is breaks a rule there or has a step that is too wide
abbrev pub IsFlawed : Purpose → GameOf → Bytes → ℕ → CertFlaw → Type 0
IsFlawed purpose game bytes number Form = IsTextFault bytes (texts.NotCert number)
IsFlawed purpose game bytes number Number = IsTextFault bytes (texts.NumberTooBig number)
IsFlawed purpose game bytes number Wrong =
    (c : CertOf) × IsText c bytes × IsRefusedFor purpose game c (checks.Bad number)
IsFlawed purpose game bytes number Wide =
    (c : CertOf) × IsText c bytes × IsRefusedFor purpose game c (checks.Wide number)

-- the certificate that was read is refused at this line
pub record IsRefusedCert (words : Words) (contents : Contents) (number : ℕ) (flaw : CertFlaw)
    : Type 0 where
  pub purpose : Purpose
  pub source : SourceOf
  pub bytes : Bytes
  pub asked : IsAskedCert words contents purpose source bytes
  pub flawed : IsFlawed purpose (expansion source) bytes number flaw
