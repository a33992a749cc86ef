use Rattle.std.proofs.Common.{subst}
use Rattle.zr_game.specs.Games.{game_of}
use Rattle.zr_cert.specs.Listed.{cert_of}
use Rattle.zr_cert.specs.declared.fault.CertFault.{CertFault}
use Rattle.zr_check.specs.Checks.{CertRefused}
use Rattle.zr_check.proofs.RightLines.{cert_keeps}
use Rattle.zr_drive.proofs.verdict.checked.Goals as goal

pub unreachable-requires : goal.unreachable-requires
unreachable-requires c =
    let game = game_of c.args.game.now in
    let cert = cert_of c.args.cert in
    cert_keeps game c.args.game.now.sound cert c.args.cert.sound c.requires.right
    c.in-Err-Bad.field-0-0
    (subst (λ (fault : CertFault). CertRefused game cert fault) c.in-Err-Bad.field-0-is
    c.in-Err-Bad.ensures.err)
