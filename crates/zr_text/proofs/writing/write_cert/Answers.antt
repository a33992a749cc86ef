use Rattle.std.proofs.Common.{rules, ◌≡◌}
use Rattle.zr_cert.specs.Listed.{cert_of}
use Rattle.zr_text.specs.Spelling.{text_of}
use Rattle.zr_text.proofs.Kept.{cert_tells}
use Rattle.zr_text.proofs.writing.write_cert.Goals as goal

pub returns-clause-text : goal.returns-clause-text
returns-clause-text c =
    let cert = cert_of c.args.cert.now in
    let bytes : c.put_cert.new.out.items ≡ text_of cert = search rules in
    (cert_tells cert c.args.cert.now.sound, bytes)
