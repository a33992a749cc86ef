use Rattle.std.proofs.Common.{◌≡◌, ◌++◌, take}
use Rattle.zr_form.specs.Lines.{spaced}
use Rattle.zr_lines.specs.Spelling.{multiplier_fields}
use Rattle.zr_text.proofs.writing_lines.put_multipliers.Given as goal

abbrev pub invariant-loop-row : goal.invariant-loop-row
invariant-loop-row l = l.out.items ≡ l.fn.out.items ++ spaced (multiplier_fields (take l.row-index l.mult))
