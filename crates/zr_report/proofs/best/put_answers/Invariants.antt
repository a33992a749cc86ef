use Rattle.std.proofs.Common.{◌≡◌, ◌++◌, take}
use Rattle.zr_form.specs.Lines.{concat}
use Rattle.zr_form.specs.Reading.{spell_from}
use Rattle.zr_report.specs.Spelling.{answer_lines}
use Rattle.zr_report.proofs.best.put_answers.Given as goal

abbrev pub invariant-loop-i : goal.invariant-loop-i
invariant-loop-i l = l.out.items ≡ l.fn.out.items ++ concat (spell_from answer_lines 0 (take l.i l.answers))
