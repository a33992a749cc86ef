use Rattle.std.proofs.Common.{◌≡◌, ◌++◌, map, take}
use Rattle.zr_cases.specs.Cases.{bnode_of}
use Rattle.zr_form.specs.Lines.{concat}
use Rattle.zr_lines.specs.Spelling.{box_line}
use Rattle.zr_text.proofs.writing_lines.put_boxes.Given as goal

abbrev pub invariant-loop-node : goal.invariant-loop-node
invariant-loop-node l = l.out.items ≡ l.fn.out.items ++ concat (map box_line (map bnode_of (take l.node-index l.nodes)))
