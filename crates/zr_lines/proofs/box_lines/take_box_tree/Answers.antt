use Rattle.std.proofs.Common.{map}
use Rattle.zr_cases.specs.Cases.{bnode_of}
use Rattle.zr_form.specs.Lines.{lines_of}
use Rattle.zr_lines.proofs.TextSteps.{boxes_made}
use Rattle.zr_lines.proofs.box_lines.take_box_tree.Goals as goal

pub unreachable-requires : goal.unreachable-requires
unreachable-requires c =
    let t = boxes_made c.args.bytes.now (lines_of c.in_ok-nodes.rest.now) (map bnode_of c.in_ok-nodes.nodes.items) c.requires c.in_ok-nodes.ensures.0 in
    let e = c.in-Err.ensures.valid.1 t in
    absurd cc
