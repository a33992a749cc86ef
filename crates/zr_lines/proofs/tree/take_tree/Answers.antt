use Rattle.std.proofs.Common.{map}
use Rattle.zr_tree.specs.Nodes.{node_of}
use Rattle.zr_form.specs.Lines.{lines_of}
use Rattle.zr_lines.proofs.TextSteps.{tree_made}
use Rattle.zr_lines.proofs.tree.take_tree.Goals as goal

pub unreachable-requires : goal.unreachable-requires
unreachable-requires c =
    let t = tree_made c.args.ends c.args.bytes.now (lines_of c.in_ok-nodes.rest.now) (map node_of c.in_ok-nodes.nodes.items) c.requires c.in_ok-nodes.ensures.0 in
    let e = c.in-Err.ensures.valid.1 t in
    absurd cc
