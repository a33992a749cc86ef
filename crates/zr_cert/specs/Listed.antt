-- The content of a certificate.
use Rattle.zr_cert.specs.declared.cert.Cert.{Cert}
use Rattle.zr_cert.specs.Certs.{CertOf, cert_with}

abbrev pub cert_of : Cert → CertOf
cert_of cert = cert_with cert.kind cert.players cert.verdict
