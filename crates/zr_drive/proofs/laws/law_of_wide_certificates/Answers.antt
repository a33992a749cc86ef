use Rattle.zr_cert.specs.Listed.{cert_of}
use Rattle.zr_cert.specs.declared.fault.CertFault.TheVariants.{Wide}
use Rattle.zr_check.proofs.Narrow.{cert_passes}
use Rattle.zr_check.proofs.Refusals.{cert_apart, cert_one}
use Rattle.zr_drive.proofs.laws.law_of_wide_certificates.Goals as goal

pub returns-clause-line : goal.returns-clause-line
returns-clause-line c game kind line cert wide fault refused =
    cert_one game (cert_of cert) fault (Wide line) refused wide.3

pub returns-clause-apart : goal.returns-clause-apart
returns-clause-apart c game form kind line cert wide right =
    cert_apart game (cert_of cert) (Wide line)
    (cert_passes game form (cert_of cert) cert.sound right.right right.narrow) wide.3
