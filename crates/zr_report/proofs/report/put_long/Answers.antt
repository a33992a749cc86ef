use Rattle.std.proofs.Common.{rules, ◌≡◌, ◌∙◌, ◌++◌, ◌∷◌, [], ℕ, ap, map, List}
use Rattle.std.specs.Prelude.{codes}
use Rattle.zr_form.specs.Lines.{spaced}
use Rattle.zr_form.specs.Numbers.{decimal}
use Rattle.zr_form.specs.Reading.{Bytes}
use Rattle.zr_text.proofs.Putting.{first_line}
use Rattle.zr_report.proofs.report.put_long.Goals as goal

pub returns : goal.returns
returns c =
    let line : Bytes = (codes "stop long" ++ spaced (decimal c.args.bytes ∷ [])) ++ 10 ∷ [] in
    first_line c.args.out.now.items line (rw c.from.ensures at c.in_ok-put_number.ensures)
