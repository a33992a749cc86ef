-- The lines that the program says.
use Rattle.std.specs.Prelude.{ℕ, ◌∷◌, ◌++◌, codes}
use Rattle.zr_form.specs.Numbers.{decimal}
use Rattle.zr_io.specs.Contents.{Bytes}
use Rattle.zr_value.specs.declared.fault.GameFault.{GameFault}
use Rattle.zr_value.specs.declared.fault.GameFault.TheVariants.{NotJson}
use Rattle.zr_value.specs.Faults.{fault_name}
use Rattle.zr_report.specs.declared.end.End.{End}
use Rattle.zr_report.specs.declared.end.End.TheVariants as ends
use Rattle.zero.specs.declared.refusal.CertFlaw.{CertFlaw}
use Rattle.zero.specs.declared.refusal.CertFlaw.TheVariants.{Form, Number, Wrong, Wide}
use Rattle.zero.specs.declared.text.Text.{Text}
use Rattle.zero.specs.declared.text.Text.TheVariants.{Game, Cert}
use Rattle.zero.specs.Endings.{line}

-- a line of the program
abbrev pub message : Bytes → Bytes
message text = line (codes "zero: " ++ text)

-- the fault's name, and the path of the value; bad JSON has no path
abbrev pub fault_text : GameFault → Bytes → Bytes
fault_text NotJson path = fault_name NotJson
fault_text fault path = fault_name fault ++ 32 ∷ path

-- the line of a fault at a path
abbrev pub fault_line : GameFault → Bytes → Bytes
fault_line fault path = message (codes "game: " ++ fault_text fault path)

-- what is said of a text that is too long
abbrev pub excess : Text → Bytes
excess Game = codes " is longer than 8388608 bytes"
excess Cert = codes " is longer than 67108864 bytes"

-- the line of a text that is too long
abbrev pub long_line : Text → Bytes → Bytes
long_line text name = message (name ++ excess text)

abbrev pub flaw_name : CertFlaw → Bytes
flaw_name Form = codes "form"
flaw_name Number = codes "number"
flaw_name Wrong = codes "wrong"
flaw_name Wide = codes "wide"

-- the line of a certificate's first line that is refused
abbrev pub flaw_line : ℕ → CertFlaw → Bytes
flaw_line number flaw = message (codes "certificate: line " ++ decimal number ++ codes ": " ++ flaw_name flaw)

-- the line of a whole variable that is open
abbrev pub open_line : ℕ → ℕ → Bytes
open_line player var =
    message (codes "open: player " ++ decimal player ++ codes " variable " ++ decimal var)

-- the line of work that came to an end without an answer
abbrev pub end_line : End → Bytes
end_line (ends.Budget limit) = message (codes "budget of " ++ decimal limit ++ codes " spent")
end_line (ends.Stuck asked) = message (codes "too wide")
end_line (ends.Step wide) = message (codes "too wide")
end_line (ends.Certificate number cert) = message (codes "too wide")
end_line (ends.Open player var dir named) = open_line player var
end_line (ends.Large cells) = message (codes "too large: " ++ decimal cells)
end_line (ends.Long bytes) = message (codes "too large: " ++ decimal bytes)
