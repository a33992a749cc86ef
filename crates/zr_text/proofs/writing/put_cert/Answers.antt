use Rattle.std.proofs.Common.{◌≡◌, ap, ◌∙◌, ◌++◌, ◌∷◌, [], List}
use Rattle.zr_cert.specs.Listed.{cert_of}
use Rattle.zr_form.specs.Reading.{Bytes}
use Rattle.zr_text.specs.Spelling.{body_lines, end_line, form_line, kind_line, verdict_line}
use Rattle.zr_text.proofs.Putting.{first_line, more_lines, one_line}
use Rattle.zr_text.proofs.writing.put_cert.Goals as goal

pub returns : goal.returns
returns c =
    let start : Bytes = c.args.out.now.items in
    let cert = cert_of c.args.cert.now in
    let kind : Bytes = kind_line cert.kind cert.players in
    let verdict : List Bytes = verdict_line cert.verdict ∷ body_lines cert.verdict in
    let form : c.extend_from_slice.new.self.items ≡ start ++ form_line = c.in_ok-extend_from_slice.ensures.items ∙ ap (λ (z : Bytes). start ++ z) c.as_slice.ensures in
    let end : c.extend_from_slice-2.new.self.items ≡ c.put_verdict.new.out.items ++ end_line = c.in_ok-extend_from_slice-2.ensures.items ∙ ap (λ (z : Bytes). c.put_verdict.new.out.items ++ z) c.as_slice-2.ensures in
    let head = one_line start (form_line ∷ []) kind (first_line start form_line form) c.in_ok-put_kind.ensures in
    one_line start (form_line ∷ kind ∷ verdict) end_line (more_lines start (form_line ∷ kind ∷ []) verdict head c.in_ok-put_verdict.ensures) end
