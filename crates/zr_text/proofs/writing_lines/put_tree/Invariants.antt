use Rattle.std.proofs.Common.{◌≡◌, ◌++◌, map, take}
use Rattle.zr_tree.specs.Nodes.{node_of}
use Rattle.zr_form.specs.Lines.{concat}
use Rattle.zr_lines.specs.Spelling.{node_line}
use Rattle.zr_text.proofs.writing_lines.put_tree.Given as goal

abbrev pub invariant-loop-node : goal.invariant-loop-node
invariant-loop-node l = l.out.items ≡ l.fn.out.items ++ concat (map node_line (map node_of (take l.node-index l.nodes)))
