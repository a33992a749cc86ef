use Rattle.std.proofs.Common.{◌≡◌, ◌++◌, map, take}
use Rattle.zr_cases.specs.Cases.{rnode_of}
use Rattle.zr_form.specs.Lines.{concat}
use Rattle.zr_lines.specs.Spelling.{case_line}
use Rattle.zr_text.proofs.writing_lines.put_cases.Given as goal

abbrev pub invariant-loop-node : goal.invariant-loop-node
invariant-loop-node l = l.out.items ≡ l.fn.out.items ++ concat (map case_line (map rnode_of (take l.node-index l.nodes)))
