use Rattle.std.proofs.Common.{rules, ◌≡◌, ◌∙◌, ◌++◌, ◌∷◌, [], ℕ, ap, map, List}
use Rattle.std.specs.Prelude.{codes}
use Rattle.zr_form.specs.Reading.{Bytes}
use Rattle.zr_text.proofs.Putting.{first_line, more_lines}
use Rattle.zr_report.specs.Spelling.{question_lines, stuck_lines}
use Rattle.zr_report.proofs.report.put_asked.Goals as goal

pub returns : goal.returns
returns c =
    let start : Bytes = c.args.out.now.items in
    let asked = c.args.asked.now in
    let first : Bytes = codes "stop wide" ++ 10 ∷ [] in
    let question : List Bytes = question_lines asked.question asked.stuck.basis.items in
    let form : c.extend_from_slice.new.self.items ≡ start ++ first = c.in_ok-extend_from_slice.ensures.items ∙ ap (λ (z : Bytes). start ++ z) c.as_slice.ensures in
    more_lines start (first ∷ question) (stuck_lines asked.stuck)
    (more_lines start (first ∷ []) question (first_line start first form) (rw c.deref.ensures.value at c.in_ok-put_question.ensures))
    c.in_ok-put_stuck.ensures
