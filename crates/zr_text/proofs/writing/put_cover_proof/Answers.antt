use Rattle.std.proofs.Common.{◌≡◌, ap, ◌∙◌, ◌++◌, ◌∷◌, [], List, map}
use Rattle.std.specs.List.{zip}
use Rattle.std.proofs.lemmas.Result.{on_ok_weaker}
use Rattle.zr_cases.specs.Cases.{rnode_of}
use Rattle.zr_cert.specs.Certs.{named_list, nodes_of}
use Rattle.zr_form.specs.Reading.{Bytes, spell_from}
use Rattle.zr_lines.specs.Spelling.{case_line}
use Rattle.zr_text.specs.Spelling.{cover_line, cover_lines}
use Rattle.zr_text.proofs.Putting.{first_line, more_lines}
use Rattle.zr_text.proofs.writing.put_cover_proof.Goals as goal

pub returns : goal.returns
returns c =
    let start : Bytes = c.args.out.now.items in
    let covers : List Bytes = spell_from cover_lines 0 (zip (map nodes_of c.args.covers.now) (map named_list c.args.named.now)) in
    let cases : List Bytes = map case_line (map rnode_of c.args.nodes.now) in
    let line : c.extend_from_slice.new.self.items ≡ start ++ cover_line = c.in_ok-extend_from_slice.ensures.items ∙ ap (λ (z : Bytes). start ++ z) c.as_slice.ensures in
    let before = more_lines start (cover_line ∷ []) covers (first_line start cover_line line) c.in_ok-put_covers.ensures in
    on_ok_weaker c.put_cases.result (λ put. more_lines start (cover_line ∷ covers) cases before put) c.put_cases.ensures
