use Rattle.std.proofs.Common.{◌≡◌, ◌++◌, map, take}
use Rattle.zr_form.specs.Lines.{concat}
use Rattle.zr_report.specs.Spelling.{move_line}
use Rattle.zr_report.proofs.question.put_moves.Given as goal

abbrev pub invariant-loop-step : goal.invariant-loop-step
invariant-loop-step l = l.out.items ≡ l.fn.out.items ++ concat (map move_line (take l.step-index l.path))
