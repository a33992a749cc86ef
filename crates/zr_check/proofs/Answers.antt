-- What an answer of the check says of the certificate.
use Rattle.std.proofs.Common.{◌≡◌, ◌↔◌, refl, length, Result, Ok, Err, IsOk, IfErr, OnOk}
use Rattle.std.specs.Prelude.{⊤}
use Rattle.zr_game.specs.Players.{GameOf}
use Rattle.zr_game.specs.Forms.{IsGame}
use Rattle.zr_cert.specs.Certs.{CertOf}
use Rattle.zr_cert.specs.Forms.{IsCert}
use Rattle.zr_cert.specs.declared.fault.CertFault.{CertFault}
use Rattle.zr_check.specs.Right.{IsRightCert, IsRightHead}
use Rattle.zr_check.specs.Truth.{IsTrueVerdict}
use Rattle.zr_check.specs.WideSteps.{HasWideStep, HeadIsWide}
use Rattle.zr_check.specs.Checks.{CertPasses, CertRefused, HeadPasses, HeadRefused}
use Rattle.zr_check.proofs.Narrow.{cert_passes, head_is}
use Rattle.zr_check.proofs.Passing.{narrow_if_cert_passes, right_if_passes, true_if_passes}
use Rattle.zr_check.proofs.Refusals.{cert_apart, head_apart}

module _ (game : GameOf) (form : IsGame game) (c : CertOf) (cert : IsCert c) where
  pub exact_if : (r : Result ⊤ CertFault) → OnOk r (CertPasses game c) → IfErr r (CertRefused game c) → IsOk r ↔ (IsRightCert game c × (HasWideStep game c → ⊥))
  exact_if (Ok u) ok err = (λ h. (right_if_passes game form c cert ok, narrow_if_cert_passes game form c cert ok), λ h. refl)
  exact_if (Err fault) ok err = (λ h. absurd cc, λ h. absurd (cert_apart game c fault (cert_passes game form c cert h.0 h.1) err))

  pub true_if : (r : Result ⊤ CertFault) → OnOk r (CertPasses game c) → OnOk r (IsTrueVerdict game c.kind c.verdict)
  true_if (Ok u) ok = true_if_passes game form c cert ok
  true_if (Err fault) ok = tt

  pub head_if : (r : Result ⊤ CertFault) → OnOk r (HeadPasses game c) → IfErr r (HeadRefused game c) → IsOk r ↔ ((c.players ≡ length game) × IsRightHead game c.kind c.verdict × (HeadIsWide game c.verdict → ⊥))
  head_if (Ok u) ok err = (λ h. (head_is game c cert).0 ok, λ h. refl)
  head_if (Err fault) ok err = (λ h. absurd cc, λ h. absurd (head_apart game c fault ((head_is game c cert).1 h) err))
