-- What a refusal becomes, once a report was to be written.
use Rattle.std.specs.Prelude.{◌≡◌, ◌⊎◌, ℕ, Option}
use Rattle.zr_io.specs.Contents.{Bytes}
use Rattle.zr_report.specs.declared.end.End.{End}
use Rattle.zero.specs.declared.refusal.Refusal.{Refusal}
use Rattle.zero.specs.declared.refusal.Refusal.TheVariants.{Ended}
use Rattle.zero.specs.declared.text.Text.{Text}
use Rattle.zero.specs.Refusals.{IsReported}

-- an end is reported; of another refusal, which stays as it is, nothing is written
abbrev pub IsOutcome : Refusal → Refusal → Option Bytes → Option Bytes → ℕ → ℕ → Type 0
IsOutcome refusal result before after old new =
    ((last : Text) × (end : End) × (refusal ≡ Ended last end)
    × IsReported last end before after old new result)
    ⊎ (((last : Text) (end : End) → refusal ≡ Ended last end → ⊥) × (result ≡ refusal) × (after ≡ before)
    × (new ≡ old))
