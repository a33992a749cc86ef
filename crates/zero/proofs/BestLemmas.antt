-- What is known of a certificate whose head is right.
use Rattle.std.proofs.Common.{◌≡◌, List, length, subst}
use Rattle.zr_game.specs.Players.{GameOf}
use Rattle.zr_io.specs.Contents.{Bytes}
use Rattle.zr_cert.specs.Certs.{BoundOf, CertOf, MixtureOf, ProfileVerdict, VerdictOf}
use Rattle.zr_cert.specs.Forms.{IsCert, IsVerdictForm}
use Rattle.zr_check.specs.Right.{IsRightHead}
use Rattle.zr_check.specs.WideSteps.{HeadIsWide}
use Rattle.zr_best.specs.Best.{ArePlayed}
use Rattle.zr_text.specs.Faults.{IsText}
use Rattle.zero.specs.BestTexts.{IsProfileText}

module _ (game : GameOf) (c : CertOf) (mixtures : List MixtureOf) (bounds : List BoundOf)
    (players : c.players ≡ length game) (verdict : c.verdict ≡ ProfileVerdict mixtures bounds)
    (right : IsRightHead game c.kind c.verdict) where
  -- its strategies are feasible, and have the form of printed ones
  pub played : IsCert c → ArePlayed game mixtures
  played cert =
      let form = subst (λ (v : VerdictOf). IsVerdictForm c.players v) verdict cert.verdict in
      let strategies = subst (λ (v : VerdictOf). IsRightHead game c.kind v) verdict right in
      record { forms = form.1; totals = strategies.totals; valid = strategies.valid }

  -- its text is that of a profile of these strategies
  pub profile_is : (HeadIsWide game c.verdict → ⊥) → (bytes : Bytes) → IsText c bytes
      → IsProfileText game bytes mixtures
  profile_is narrow bytes text = record {
    cert = c;
    bounds = bounds;
    is_text = text;
    players = players;
    verdict = verdict;
    right = subst (λ (v : VerdictOf). IsRightHead game c.kind v) verdict right;
    narrow = subst (λ (v : VerdictOf). HeadIsWide game v → ⊥) verdict narrow;
  }
