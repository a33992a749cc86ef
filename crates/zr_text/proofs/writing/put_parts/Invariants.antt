use Rattle.std.proofs.Common.{◌≡◌, ◌++◌, map, take}
use Rattle.zr_mix.specs.Mixtures.{part_of}
use Rattle.zr_form.specs.Lines.{concat}
use Rattle.zr_text.specs.Spelling.{part_line}
use Rattle.zr_text.proofs.writing.put_parts.Given as goal

abbrev pub invariant-loop-part : goal.invariant-loop-part
invariant-loop-part l = l.out.items ≡ l.fn.out.items ++ concat (map part_line (map part_of (take l.part-index l.parts)))
