use Rattle.std.proofs.Common.{◌≡◌, ◌++◌, map, take}
use Rattle.zr_form.specs.Lines.{spaced}
use Rattle.zr_form.specs.Numbers.{signed}
use Rattle.zr_text.proofs.writing_lines.put_numbers.Given as goal

abbrev pub invariant-loop-j : goal.invariant-loop-j
invariant-loop-j l = l.out.items ≡ l.fn.out.items ++ spaced (map signed (take l.j l.point.num))
