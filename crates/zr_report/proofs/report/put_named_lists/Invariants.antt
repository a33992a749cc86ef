use Rattle.std.proofs.Common.{◌≡◌, ◌++◌, map, take}
use Rattle.zr_cert.specs.Certs.{named_list}
use Rattle.zr_form.specs.Lines.{concat}
use Rattle.zr_form.specs.Reading.{spell_from}
use Rattle.zr_lines.specs.Spelling.{named_lines}
use Rattle.zr_report.proofs.report.put_named_lists.Given as goal

abbrev pub invariant-loop-items : goal.invariant-loop-items
invariant-loop-items l = l.out.items ≡ l.fn.out.items ++ concat (spell_from (λ i items. named_lines items) 0 (map named_list (take l.items-index l.named)))
