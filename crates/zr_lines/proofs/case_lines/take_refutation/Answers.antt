use Rattle.std.proofs.Common.{map}
use Rattle.zr_cases.specs.Cases.{rnode_of}
use Rattle.zr_form.specs.Lines.{lines_of}
use Rattle.zr_lines.proofs.TextSteps.{cases_made}
use Rattle.zr_lines.proofs.case_lines.take_refutation.Goals as goal

pub unreachable-requires : goal.unreachable-requires
unreachable-requires c =
    let t = cases_made c.args.leaves.now c.args.bytes.now (lines_of c.in_ok-nodes.rest.now) (map rnode_of c.in_ok-nodes.nodes.items) c.requires.bytes c.requires.players c.in_ok-nodes.ensures.0 in
    let e = c.in-Err.ensures.valid.1 t in
    absurd cc
