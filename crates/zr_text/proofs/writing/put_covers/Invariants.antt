use Rattle.std.proofs.Common.{◌≡◌, ◌++◌, map, take}
use Rattle.std.specs.List.{zip}
use Rattle.zr_cert.specs.Certs.{named_list, nodes_of}
use Rattle.zr_form.specs.Lines.{concat}
use Rattle.zr_form.specs.Reading.{spell_from}
use Rattle.zr_text.specs.Spelling.{cover_lines}
use Rattle.zr_text.proofs.writing.put_covers.Given as goal

abbrev pub invariant-loop-i : goal.invariant-loop-i
invariant-loop-i l = l.out.items ≡ l.fn.out.items ++ concat (spell_from cover_lines 0 (zip (map nodes_of (take l.i l.covers)) (map named_list (take l.i l.named))))
