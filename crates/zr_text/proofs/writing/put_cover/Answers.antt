use Rattle.std.proofs.Common.{List, map}
use Rattle.std.proofs.lemmas.Result.{on_ok_weaker}
use Rattle.zr_game.specs.Named.{named_of}
use Rattle.zr_tree.specs.Nodes.{node_of}
use Rattle.zr_form.specs.Reading.{Bytes}
use Rattle.zr_lines.specs.Spelling.{named_lines, node_line}
use Rattle.zr_text.proofs.Putting.{more_lines}
use Rattle.zr_text.proofs.writing.put_cover.Goals as goal

pub returns : goal.returns
returns c = λ i.
    let start : Bytes = c.args.out.now.items in
    let nodes : List Bytes = map node_line (map node_of c.args.cover.now.nodes.items) in
    on_ok_weaker c.put_named.result (λ put. more_lines start nodes (named_lines (map named_of c.args.items.now)) (rw c.deref.ensures.value at c.in_ok-put_tree.ensures) put) c.put_named.ensures
