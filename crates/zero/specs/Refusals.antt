-- Why the program refuses, and what it says and ends with then.
use Rattle.std.specs.Prelude.{◌≡◌, ◌≢◌, ◌⊎◌, ℕ, ◌≤◌, ◌++◌, codes, String, string_bytes, List, Option, Some, None, Result, IfErr}
use Rattle.std.specs.declared.alloc.Global.{Global}
use Rattle.zr_game.specs.Players.{GameOf}
use Rattle.zr_game.specs.declared.kind.Kind.{Kind}
use Rattle.zr_cert.specs.Certs.{MixtureOf}
use Rattle.zr_drive.specs.Ends.{IsEndOf}
use Rattle.zr_io.specs.Contents.{Bytes, Contents}
use Rattle.zr_io.specs.Faults.{Rose}
use Rattle.zr_io.specs.Written.{Appends, AppendsPrefix}
use Rattle.zr_report.specs.declared.end.End.{End}
use Rattle.zr_report.specs.declared.end.End.TheVariants as ends
use Rattle.zr_report.specs.Spelling.{report_text}
use Rattle.zero.specs.declared.refusal.Refusal.{Refusal}
use Rattle.zero.specs.declared.refusal.Refusal.TheVariants.{Usage, CannotRead, TooLong, Faulty, Flawed, Ended, NoMemory, WriteFault}
use Rattle.zero.specs.declared.text.Text.{Text}
use Rattle.zero.specs.declared.text.Text.TheVariants.{Game, Cert}
use Rattle.zr_words.specs.Words.{Words}
use Rattle.zr_words.specs.declared.reading.Refused.{Refused}
use Rattle.zr_words.specs.declared.reading.Refused.TheVariants as words
use Rattle.zr_words.specs.Commands.{AreOfNoAction, IsMisspelt}
use Rattle.zero.specs.BestTexts.{IsBestEnd, IsProfileText}
use Rattle.zero.specs.Commands.{IsGameName}
use Rattle.zero.specs.Reads.{IsDue, IsLastTake, IsLong}
use Rattle.zero.specs.Answers.{IsEnded, IsFaultyGame, IsRefusedCert}
use Rattle.zero.specs.Messages.{end_line, fault_line, flaw_line, long_line, message}

-- ---- what each refusal is

-- the status to end with where work came to an end without an answer: the budget was spent, a program
-- or a step was too wide, a whole variable was open, or a system or a text was too large
abbrev pub end_status : End → ℕ
end_status (ends.Budget limit) = 7
end_status (ends.Stuck asked) = 8
end_status (ends.Step wide) = 8
end_status (ends.Certificate number cert) = 8
end_status (ends.Open player var dir named) = 9
end_status (ends.Large cells) = 10
end_status (ends.Long bytes) = 10

-- the status is one of these
abbrev pub IsEndStatus : ℕ → Type 0
IsEndStatus status = (7 ≤ status) × (status ≤ 10)

-- the status to end with
abbrev pub status_of : Refusal → ℕ
status_of (Usage help) = 2
status_of (CannotRead text name) = 3
status_of (TooLong text name) = 4
status_of (Faulty fault path) = 5
status_of (Flawed number flaw) = 6
status_of (Ended last end) = end_status end
status_of NoMemory = 11
status_of WriteFault = 12

-- what is said of words that are of no action: what `clap` says of their form, and a line
abbrev pub usage_text : Option (String Global) → Bytes
usage_text None = message (codes "usage")
usage_text (Some help) = string_bytes help ++ message (codes "usage")

-- the text that says why
abbrev pub line_of : Refusal → Bytes
line_of (Usage help) = usage_text help
line_of (CannotRead text name) = message (codes "cannot read " ++ name.now)
line_of (TooLong text name) = long_line text name.now
line_of (Faulty fault path) = fault_line fault (string_bytes path)
line_of (Flawed number flaw) = flaw_line number flaw
line_of (Ended last end) = end_line end
line_of NoMemory = message (codes "no memory")
line_of WriteFault = message (codes "write fault")

-- the words name a game; an answer is written only then
abbrev pub NamesGame : Words → Type 0
NamesGame words = (name : Bytes) × IsGameName words name

-- which text of `clap` stands before the line of words that ask for nothing: one where they haven't
-- the form of a command line, and none where they have it
abbrev pub IsHelp : Words → Option (String Global) → Type 0
IsHelp words None = AreOfNoAction words
IsHelp words (Some help) = IsMisspelt words

-- why the words have no answer
abbrev pub IsCause : Words → Contents → Refusal → Type 0
IsCause words contents (Usage help) = IsHelp words help
IsCause words contents (CannotRead text name) = IsDue words contents text name.now
IsCause words contents (TooLong text name) = IsLong words contents text name.now
IsCause words contents (Faulty fault path) = IsFaultyGame words contents fault (string_bytes path)
IsCause words contents (Flawed number flaw) = IsRefusedCert words contents number flaw
IsCause words contents (Ended last end) = IsEnded words contents last end
IsCause words contents NoMemory = Unit {0}
IsCause words contents WriteFault = NamesGame words

-- what was taken before the refusal, by the counts of takes: nothing, or last the text that it speaks of
abbrev pub HasTaken : ℕ → ℕ → Refusal → Type 0
HasTaken before after (Usage help) = after ≡ before
HasTaken before after (CannotRead text name) = IsLastTake text before after
HasTaken before after (TooLong text name) = IsLastTake text before after
HasTaken before after (Faulty fault path) = IsLastTake Game before after
HasTaken before after (Flawed number flaw) = IsLastTake Cert before after
HasTaken before after (Ended last end) = IsLastTake last before after
HasTaken before after NoMemory = Unit {0}
HasTaken before after WriteFault = Unit {0}

-- ---- what the program says

-- the line that goes with a status, by the counts of takes before and after
pub record IsLine (words : Words) (contents : Contents) (before after status : ℕ) (line : Bytes) : Type 0 where
  pub refusal : Refusal
  pub cause : IsCause words contents refusal
  pub taken : HasTaken before after refusal
  pub says_status : status ≡ status_of refusal
  pub says_line : line ≡ line_of refusal

-- ---- the steps

-- what a call that takes from a shelf keeps of it, and that it finds a text unreadable only where the shelf failed
pub record Keeps {S T : Type 0} (contents_of : S → Contents) (faults_of : S → ℕ) (before after : S) (result : Result T Refusal) : Type 0 where
  pub contents : contents_of after ≡ contents_of before
  pub faults : faults_of before ≤ faults_of after
  pub unread : IfErr result (λ refusal. status_of refusal ≡ 3 → Rose (faults_of before) (faults_of after))

-- a refusal that comes of the words: they ask for nothing, or memory was wanting
abbrev pub ComesOfWords : Words → Refusal → Type 0
ComesOfWords words refusal = (refusal ≡ NoMemory)
    ⊎ ((help : Option (String Global)) × (refusal ≡ Usage help) × IsHelp words help)

-- the refusal of words that are read so: a text of `clap` is held as it is
abbrev pub refusal_for : Refused → Refusal
refusal_for (words.Form text) = Usage (Some text)
refusal_for words.Action = Usage None
refusal_for words.NoMemory = NoMemory

-- where work came to an end without an answer, the report of it was written whole
abbrev pub HasReported : Option Bytes → Option Bytes → Refusal → Type 0
HasReported before after (Usage help) = Unit {0}
HasReported before after (CannotRead text name) = Unit {0}
HasReported before after (TooLong text name) = Unit {0}
HasReported before after (Faulty fault path) = Unit {0}
HasReported before after (Flawed number flaw) = Unit {0}
HasReported before after (Ended last end) = Appends before (report_text end) after
HasReported before after NoMemory = Unit {0}
HasReported before after WriteFault = Unit {0}

-- the refusal once the report of an end was to be written: the end where it was written whole, else
-- want of memory or a fault of what it is written to, after a prefix of it
pub record IsReported (last : Text) (end : End) (before after : Option Bytes) (old new : ℕ) (refusal : Refusal)
    : Type 0 where
  pub refusal_is : (refusal ≡ Ended last end) ⊎ (refusal ≡ NoMemory) ⊎ (refusal ≡ WriteFault)
  pub written : HasReported before after refusal
  pub begun : refusal ≢ Ended last end → AppendsPrefix before (report_text end) after
  pub failed : refusal ≡ WriteFault → Rose old new

-- a refusal that comes of the search for best answers: want of memory, or the search's end
abbrev pub ComesOfSearch : GameOf → List MixtureOf → ℕ → Refusal → Type 0
ComesOfSearch game mixtures budget refusal = (refusal ≡ NoMemory)
    ⊎ ((end : End) × (refusal ≡ Ended Cert end) × IsBestEnd game mixtures budget end)

-- a refusal that comes of the work on an equilibrium: want of memory, or the work's end
abbrev pub ComesOfWork : GameOf → Kind → ℕ → Refusal → Type 0
ComesOfWork game kind budget refusal = (refusal ≡ NoMemory)
    ⊎ ((end : End) × (refusal ≡ Ended Game end) × IsEndOf game kind budget end)

-- a refusal that comes of the search, for the profile of these bytes
abbrev pub IsStopped : GameOf → Bytes → ℕ → Refusal → Type 0
IsStopped game bytes budget refusal =
    (mixtures : List MixtureOf) × IsProfileText game bytes mixtures
    × ComesOfSearch game mixtures budget refusal

-- a refusal that comes of a text that was taken
pub record ComesOf (text : Text) (refusal : Refusal) : Type 0 where
  pub taken : (before after : ℕ) → IsLastTake text before after → HasTaken before after refusal
  pub read : status_of refusal ≢ 3
  pub unwritten : status_of refusal ≢ 12
