use Rattle.std.proofs.Common.{◌≡◌, ◌++◌, map, take}
use Rattle.zr_form.specs.Lines.{concat}
use Rattle.zr_report.specs.Spelling.{choice_line}
use Rattle.zr_report.proofs.question.put_choice_lines.Given as goal

abbrev pub invariant-loop-choice : goal.invariant-loop-choice
invariant-loop-choice l = l.out.items ≡ l.fn.out.items ++ concat (map choice_line (take l.choice-index l.path))
