use Rattle.std.proofs.Common.{◌≡◌, ◌++◌, map, take}
use Rattle.zr_form.specs.Lines.{spaced}
use Rattle.zr_form.specs.Numbers.{signed}
use Rattle.zr_text.proofs.writing_lines.put_direction.Given as goal

abbrev pub invariant-loop-n : goal.invariant-loop-n
invariant-loop-n l = l.out.items ≡ l.fn.out.items ++ spaced (map signed (take l.n-index l.dir))
