use Rattle.std.proofs.Common.{rules, ◌≡◌, ◌∙◌, ◌++◌, ◌∷◌, [], ℕ, ap, map, List}
use Rattle.std.specs.Prelude.{codes}
use Rattle.zr_form.specs.Lines.{spaced}
use Rattle.zr_form.specs.Numbers.{decimal}
use Rattle.zr_form.specs.Reading.{Bytes}
use Rattle.zr_text.proofs.Putting.{first_line, more_lines, one_line}
use Rattle.zr_report.specs.Spelling.{aim_line, move_line}
use Rattle.zr_report.proofs.question.put_branch.Goals as goal

pub returns : goal.returns
returns c = λ basis.
    let start : Bytes = c.args.out.now.items in
    let line : Bytes = (codes "question branch" ++ spaced (decimal c.args.player ∷ [])) ++ 10 ∷ [] in
    let moves : List Bytes = map move_line c.args.path.now.items in
    let first = first_line start line (rw c.from.ensures at c.in_ok-put_number.ensures) in
    one_line start (line ∷ moves) (aim_line c.args.aim.now.items)
    (more_lines start (line ∷ []) moves first (rw c.deref.ensures.value at c.in_ok-put_moves.ensures))
    (rw c.deref-2.ensures.value at c.in_ok-put_aim.ensures)
