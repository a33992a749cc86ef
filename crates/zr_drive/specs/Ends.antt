-- Why there is no text.
use Rattle.std.specs.Prelude.{◌≡◌, ℕ, ◌<◌, length}
use Rattle.zr_io.specs.declared.purse.Purse.{Purse}
use Rattle.zr_io.specs.Purses.{StartsAt}
use Rattle.zr_game.specs.Players.{GameOf}
use Rattle.zr_game.specs.declared.kind.Kind.{Kind}
use Rattle.zr_cert.specs.Certs.{CertOf}
use Rattle.zr_cert.specs.Listed.{cert_of}
use Rattle.zr_cert.specs.declared.cert.Cert.{Cert}
use Rattle.zr_cert.specs.declared.fault.CertFault.TheVariants as AFault
use Rattle.zr_check.specs.Right.{IsRightCert}
use Rattle.zr_check.specs.Checks.{CertRefused}
use Rattle.zr_text.specs.Spelling.{text_of}
use Rattle.zr_decide.specs.declared.stop.DecideStop.{DecideStop}
use Rattle.zr_decide.specs.declared.stop.DecideStop.TheVariants as ADecide
use Rattle.zr_decide.specs.Causes.{IsDecideCause}
use Rattle.zr_decide.specs.DrawnCerts.{IsDrawnCert}
use Rattle.zr_decide.specs.Works.{SpendsDecideWork}
use Rattle.zr_works.specs.Most.{IsBelowWork}
use Rattle.zr_report.specs.declared.end.End.{End}
use Rattle.zr_report.specs.declared.end.End.TheVariants as AnEnd
use Rattle.zr_drive.specs.declared.stop.DriveStop.{DriveStop}
use Rattle.zr_drive.specs.declared.stop.DriveStop.TheVariants.{Ended, NoMemory}
use Rattle.zr_drive.specs.Verdicts.{IsRightOf, text_limit}

-- the end of a decision that stopped so, under a purse of this limit
abbrev pub end_of : ℕ → DecideStop → DriveStop
end_of limit ADecide.Spent = Ended (AnEnd.Budget limit)
end_of limit (ADecide.Wide asked) = Ended (AnEnd.Stuck asked)
end_of limit (ADecide.Step wide) = Ended (AnEnd.Step wide)
end_of limit (ADecide.Endless i var dir named) = Ended (AnEnd.Open i var dir named)
end_of limit (ADecide.TooLarge cells) = Ended (AnEnd.Large cells)
end_of limit ADecide.NoMemory = NoMemory

-- a decision by a new purse of this limit, which spends no more than there is work, may stop so
abbrev pub HasStopped : GameOf → Kind → ℕ → DecideStop → Type 0
HasStopped game kind limit stop =
    (old new : Purse) × StartsAt old limit × SpendsDecideWork game kind old new
    × IsDecideCause game kind old new stop

-- the check of a right and drawn certificate of the kind is too wide at this line
abbrev pub IsTooWideCert : GameOf → Kind → ℕ → Cert → Type 0
IsTooWideCert game kind line cert =
    (cert.kind ≡ kind) × IsRightCert game (cert_of cert) × IsDrawnCert game (cert_of cert)
    × CertRefused game (cert_of cert) (AFault.Wide line)

-- the text of a right and drawn certificate of the kind, which passes its check, has so many bytes,
-- too many
abbrev pub IsLongText : GameOf → Kind → ℕ → Type 0
IsLongText game kind bytes =
    (c : CertOf) × (c.kind ≡ kind) × IsRightOf game c × IsDrawnCert game c
    × (bytes ≡ length (text_of c)) × (text_limit < bytes)

-- why the work came to this end: its decision stopped, by its budget only below the most work where
-- all whole variables have both bounds; or the certificate is too wide or too long
abbrev pub IsEndOf : GameOf → Kind → ℕ → End → Type 0
IsEndOf game kind limit (AnEnd.Budget n) =
    (n ≡ limit) × HasStopped game kind limit ADecide.Spent × IsBelowWork limit game
IsEndOf game kind limit (AnEnd.Stuck asked) = HasStopped game kind limit (ADecide.Wide asked)
IsEndOf game kind limit (AnEnd.Step wide) = HasStopped game kind limit (ADecide.Step wide)
IsEndOf game kind limit (AnEnd.Certificate line cert) = IsTooWideCert game kind line cert
IsEndOf game kind limit (AnEnd.Open i var dir named) =
    HasStopped game kind limit (ADecide.Endless i var dir named)
IsEndOf game kind limit (AnEnd.Large cells) = HasStopped game kind limit (ADecide.TooLarge cells)
IsEndOf game kind limit (AnEnd.Long bytes) = IsLongText game kind bytes

abbrev pub IsDriveCause : GameOf → Kind → ℕ → DriveStop → Type 0
IsDriveCause game kind limit (Ended end) = IsEndOf game kind limit end
IsDriveCause game kind limit NoMemory = Unit {0}
