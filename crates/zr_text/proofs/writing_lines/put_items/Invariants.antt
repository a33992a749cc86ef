use Rattle.std.proofs.Common.{◌≡◌, ◌++◌, map, take}
use Rattle.zr_game.specs.Named.{named_of}
use Rattle.zr_form.specs.Lines.{concat}
use Rattle.zr_lines.specs.Spelling.{named_line}
use Rattle.zr_text.proofs.writing_lines.put_items.Given as goal

abbrev pub invariant-loop-item : goal.invariant-loop-item
invariant-loop-item l = l.out.items ≡ l.fn.out.items ++ concat (map named_line (map named_of (take l.item-index l.items)))
