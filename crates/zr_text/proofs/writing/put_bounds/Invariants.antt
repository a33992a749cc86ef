use Rattle.std.proofs.Common.{◌≡◌, ◌++◌, map, take}
use Rattle.zr_cert.specs.Certs.{bound_of}
use Rattle.zr_form.specs.Lines.{concat}
use Rattle.zr_form.specs.Reading.{spell_from}
use Rattle.zr_text.specs.Spelling.{bound_lines}
use Rattle.zr_text.proofs.writing.put_bounds.Given as goal

abbrev pub invariant-loop-i : goal.invariant-loop-i
invariant-loop-i l = l.out.items ≡ l.fn.out.items ++ concat (spell_from bound_lines 0 (map bound_of (take l.i l.bounds)))
