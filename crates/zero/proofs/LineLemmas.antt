-- What goes with the status of a refusal.
use Rattle.std.proofs.Common.{◌≡◌, ℕ, Option, string_bytes, refl, inl, inr, ◌⊎◌, arith}
use Rattle.zr_io.specs.Contents.{Bytes, Contents}
use Rattle.zr_io.specs.Written.{Appends}
use Rattle.zr_report.specs.declared.end.End.{End}
use Rattle.zr_report.specs.declared.end.End.TheVariants as ends
use Rattle.zr_report.specs.Spelling.{report_text}
use Rattle.zr_value.specs.declared.fault.GameFault.{GameFault}
use Rattle.zero.specs.declared.refusal.CertFlaw.{CertFlaw}
use Rattle.zero.specs.declared.refusal.Refusal.{Refusal}
use Rattle.zero.specs.declared.refusal.Refusal.TheVariants.{Usage, CannotRead, TooLong, Faulty, Flawed, Ended, NoMemory, WriteFault}
use Rattle.zero.specs.declared.text.Text.{Text}
use Rattle.zero.specs.declared.text.Text.TheVariants.{Game, Cert}
use Rattle.zr_words.specs.Words.{Words}
use Rattle.zero.specs.Messages.{end_line}
use Rattle.zero.specs.Reads.{IsDue, IsLastTake, IsLong}
use Rattle.zero.specs.Answers.{IsEnded, IsFaultyGame, IsRefusedCert}
use Rattle.zero.specs.Refusals.{HasReported, HasTaken, IsCause, IsEndStatus, end_status, line_of, status_of}

-- an end has one of its statuses
pub end_range : (end : End) → IsEndStatus (end_status end)
end_range (ends.Budget limit) = (omega arith, omega arith)
end_range (ends.Stuck asked) = (omega arith, omega arith)
end_range (ends.Step wide) = (omega arith, omega arith)
end_range (ends.Certificate number cert) = (omega arith, omega arith)
end_range (ends.Open player var dir named) = (omega arith, omega arith)
end_range (ends.Large cells) = (omega arith, omega arith)
end_range (ends.Long bytes) = (omega arith, omega arith)

module _ (words : Words) (contents : Contents) (before after : ℕ) where
  -- a text that can't be read is due, and the last that was taken
  pub unread_of : (refusal : Refusal) → IsCause words contents refusal → HasTaken before after refusal → status_of refusal ≡ 3
      → (text : Text) × (name : Bytes) × IsDue words contents text name × IsLastTake text before after
  unread_of (Usage help) h t e = absurd (omega (arith, e))
  unread_of (CannotRead text name) h t e = (text, name.now, h, t)
  unread_of (TooLong text name) h t e = absurd (omega (arith, e))
  unread_of (Faulty fault path) h t e = absurd (omega (arith, e))
  unread_of (Flawed number flaw) h t e = absurd (omega (arith, e))
  unread_of (Ended last end) h t e = let range = end_range end in absurd (omega (arith, e, range.0, range.1))
  unread_of NoMemory h t e = absurd (omega (arith, e))
  unread_of WriteFault h t e = absurd (omega (arith, e))

  -- so is one that is too long
  pub long_of : (refusal : Refusal) → IsCause words contents refusal → HasTaken before after refusal → status_of refusal ≡ 4
      → (text : Text) × (name : Bytes) × IsLong words contents text name × IsLastTake text before after
  long_of (Usage help) h t e = absurd (omega (arith, e))
  long_of (CannotRead text name) h t e = absurd (omega (arith, e))
  long_of (TooLong text name) h t e = (text, name.now, h, t)
  long_of (Faulty fault path) h t e = absurd (omega (arith, e))
  long_of (Flawed number flaw) h t e = absurd (omega (arith, e))
  long_of (Ended last end) h t e = let range = end_range end in absurd (omega (arith, e, range.0, range.1))
  long_of NoMemory h t e = absurd (omega (arith, e))
  long_of WriteFault h t e = absurd (omega (arith, e))

  -- a fault is that of the game
  pub fault_of : (refusal : Refusal) → IsCause words contents refusal → HasTaken before after refusal → status_of refusal ≡ 5
      → (fault : GameFault) × (path : Bytes) × IsFaultyGame words contents fault path × IsLastTake Game before after
  fault_of (Usage help) h t e = absurd (omega (arith, e))
  fault_of (CannotRead text name) h t e = absurd (omega (arith, e))
  fault_of (TooLong text name) h t e = absurd (omega (arith, e))
  fault_of (Faulty fault path) h t e = (fault, string_bytes path, h, t)
  fault_of (Flawed number flaw) h t e = absurd (omega (arith, e))
  fault_of (Ended last end) h t e = let range = end_range end in absurd (omega (arith, e, range.0, range.1))
  fault_of NoMemory h t e = absurd (omega (arith, e))
  fault_of WriteFault h t e = absurd (omega (arith, e))

  -- a refused line is one of the certificate
  pub flaw_of : (refusal : Refusal) → IsCause words contents refusal → HasTaken before after refusal → status_of refusal ≡ 6
      → (number : ℕ) × (flaw : CertFlaw) × IsRefusedCert words contents number flaw × IsLastTake Cert before after
  flaw_of (Usage help) h t e = absurd (omega (arith, e))
  flaw_of (CannotRead text name) h t e = absurd (omega (arith, e))
  flaw_of (TooLong text name) h t e = absurd (omega (arith, e))
  flaw_of (Faulty fault path) h t e = absurd (omega (arith, e))
  flaw_of (Flawed number flaw) h t e = (number, flaw, h, t)
  flaw_of (Ended last end) h t e = let range = end_range end in absurd (omega (arith, e, range.0, range.1))
  flaw_of NoMemory h t e = absurd (omega (arith, e))
  flaw_of WriteFault h t e = absurd (omega (arith, e))

  -- an end without an answer is one of the work that is asked for, with its report
  pub ended_of : (old new : Option Bytes) (refusal : Refusal) → IsCause words contents refusal
      → HasTaken before after refusal → HasReported old new refusal → IsEndStatus (status_of refusal)
      → (last : Text) × (end : End) × (status_of refusal ≡ end_status end)
      × IsEnded words contents last end × IsLastTake last before after × Appends old (report_text end) new
      × (line_of refusal ≡ end_line end)
  ended_of old new (Usage help) h t w e = absurd (omega (arith, e.0))
  ended_of old new (CannotRead text name) h t w e = absurd (omega (arith, e.0))
  ended_of old new (TooLong text name) h t w e = absurd (omega (arith, e.0))
  ended_of old new (Faulty fault path) h t w e = absurd (omega (arith, e.0))
  ended_of old new (Flawed number flaw) h t w e = absurd (omega (arith, e.0))
  ended_of old new (Ended last end) h t w e = (last, end, refl, h, t, w, refl)
  ended_of old new NoMemory h t w e = absurd (omega (arith, e.1))
  ended_of old new WriteFault h t w e = absurd (omega (arith, e.1))
