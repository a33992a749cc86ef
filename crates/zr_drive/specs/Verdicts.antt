-- The text of a certificate that answers a game.
use Rattle.std.specs.Prelude.{◌≡◌, ℕ, ◌≤◌, length}
use Rattle.zr_form.specs.Reading.{Bytes}
use Rattle.zr_game.specs.Players.{GameOf}
use Rattle.zr_game.specs.declared.kind.Kind.{Kind}
use Rattle.zr_cert.specs.Certs.{CertOf}
use Rattle.zr_check.specs.Right.{IsRightCert}
use Rattle.zr_check.specs.WideSteps.{HasWideStep}
use Rattle.zr_text.specs.Faults.{IsText}

-- the most bytes of a certificate's text
abbrev pub text_limit : ℕ
text_limit = 67108864

-- the certificate is right, and no step of its check is too wide
pub record IsRightOf (game : GameOf) (c : CertOf) : Type 0 where
  pub right : IsRightCert game c
  pub narrow : HasWideStep game c → ⊥

-- the bytes are the text, within its limit, of such a certificate of the kind
pub record IsVerdictText (game : GameOf) (kind : Kind) (bytes : Bytes) : Type 0 where
  pub cert : CertOf
  pub kind_is : cert.kind ≡ kind
  pub right : IsRightOf game cert
  pub text : IsText cert bytes
  pub within : length bytes ≤ text_limit
