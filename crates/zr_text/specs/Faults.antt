-- Which bytes are a certificate's text, and why others are none.
use Rattle.std.specs.Prelude.{◌≡◌, ℕ, suc, take, Bool, true, false}
use Rattle.zr_cert.specs.Certs.{CertOf}
use Rattle.zr_form.specs.Lines.{lines_of}
use Rattle.zr_form.specs.Reading.{Bytes}
use Rattle.zr_text.specs.declared.fault.TextError.{TextError}
use Rattle.zr_text.specs.declared.fault.TextError.TheVariants.{NotCert, NumberTooBig, NoMemory}
use Rattle.zr_text.specs.Fits.{Fits}
use Rattle.zr_text.specs.Spelling.{cert_lines, text_of}

-- the bytes are the text of this certificate
abbrev pub IsText : CertOf → Bytes → Type 0
IsText c bytes = Fits true c × (bytes ≡ text_of c)

-- the first so many lines are those of some certificate, with the upper bounds (strict) or without them
abbrev pub Agrees : Bool → ℕ → Bytes → Type 0
Agrees strict count bytes = (c : CertOf) × Fits strict c × (take count (lines_of bytes) ≡ take count (cert_lines c))

-- after so many lines comes the first one that isn't in the form
pub record FirstBad (strict : Bool) (bytes : Bytes) (before : ℕ) : Type 0 where
  pub good : Agrees strict before bytes
  pub bad : Agrees strict (suc before) bytes → ⊥

-- why bytes are no certificate's text: the first line that isn't in the form, and whether the size of a number alone is
-- at fault
abbrev pub IsTextFault : Bytes → TextError → Type 0
IsTextFault bytes (NotCert n) =
    (before : ℕ) × (n ≡ suc before) × FirstBad true bytes before × (Agrees false (suc before) bytes → ⊥)
IsTextFault bytes (NumberTooBig n) =
    (before : ℕ) × (n ≡ suc before) × FirstBad true bytes before × Agrees false (suc before) bytes
IsTextFault bytes NoMemory = Unit {0}
