use Rattle.std.proofs.Common.{rules, ◌≡◌, ◌∙◌, ◌++◌, ◌∷◌, [], ℕ, ap, map, List}
use Rattle.std.specs.Prelude.{codes}
use Rattle.zr_form.specs.Reading.{Bytes}
use Rattle.zr_text.proofs.Putting.{first_line, more_lines, one_line}
use Rattle.zr_report.specs.Spelling.{aim_line, choice_line, choices_aim}
use Rattle.zr_report.proofs.question.put_choices.Goals as goal

pub returns : goal.returns
returns c = λ basis e.
    let start : Bytes = c.args.out.now.items in
    let first : Bytes = codes "question choices" ++ 10 ∷ [] in
    let lines : List Bytes = map choice_line c.args.path.now.items in
    let form : c.extend_from_slice.new.self.items ≡ start ++ first = c.in_ok-extend_from_slice.ensures.items ∙ ap (λ (z : Bytes). start ++ z) c.as_slice.ensures in
    let all = one_line start (first ∷ lines) (aim_line (choices_aim c.args.columns))
    (more_lines start (first ∷ []) lines (first_line start first form) (rw c.deref.ensures.value at c.in_ok-put_choice_lines.ensures))
    c.in_ok-put_choices_aim.ensures in
    rw e at all
