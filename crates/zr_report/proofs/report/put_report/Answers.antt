use Rattle.std.proofs.Common.{rules, ◌≡◌, ◌∙◌, ◌++◌, ◌∷◌, [], ℕ, ap, map, List}
use Rattle.std.specs.Prelude.{codes}
use Rattle.zr_form.specs.Reading.{Bytes}
use Rattle.zr_text.specs.Spelling.{end_line}
use Rattle.zr_text.proofs.Putting.{first_line, more_lines, one_line}
use Rattle.zr_report.specs.Spelling.{stop_lines}
use Rattle.zr_report.proofs.report.put_report.Goals as goal

pub returns : goal.returns
returns c =
    let start : Bytes = c.args.out.now.items in
    let first : Bytes = codes "zero-report/1" ++ 10 ∷ [] in
    let lines : List Bytes = stop_lines c.args.end.now in
    let form : c.extend_from_slice.new.self.items ≡ start ++ first = c.in_ok-extend_from_slice.ensures.items ∙ ap (λ (z : Bytes). start ++ z) c.as_slice.ensures in
    let end : c.extend_from_slice-2.new.self.items ≡ c.put_stop.new.out.items ++ end_line = c.in_ok-extend_from_slice-2.ensures.items ∙ ap (λ (z : Bytes). c.put_stop.new.out.items ++ z) c.as_slice-2.ensures in
    one_line start (first ∷ lines) end_line (more_lines start (first ∷ []) lines (first_line start first form) c.in_ok-put_stop.ensures) end
