use Rattle.std.proofs.Common.{rules, ◌≡◌, ◌∙◌, ◌++◌, ◌∷◌, [], ℕ, ap, map, List}
use Rattle.std.specs.Prelude.{codes}
use Rattle.zr_form.specs.Lines.{spaced}
use Rattle.zr_form.specs.Numbers.{decimal}
use Rattle.zr_form.specs.Reading.{Bytes}
use Rattle.std.proofs.Common.{append_assoc}
use Rattle.zr_cert.specs.Listed.{cert_of}
use Rattle.zr_text.specs.Spelling.{text_of}
use Rattle.zr_report.proofs.Growing.{piece_after}
use Rattle.zr_report.proofs.report.put_certificate.Goals as goal

pub returns : goal.returns
returns c =
    let line : Bytes = (codes "stop certificate" ++ spaced (decimal c.args.line ∷ [])) ++ 10 ∷ [] in
    let text : Bytes = text_of (cert_of c.args.cert.now) in
    let same : c.as_slice.result.now ≡ text = search rules in
    piece_after c.args.out.now.items line text c.put_number.new.out.items c.as_slice.result.now
    c.extend_from_slice.new.self.items (rw c.from.ensures at c.in_ok-put_number.ensures) same
    c.in_ok-extend_from_slice.ensures.items
