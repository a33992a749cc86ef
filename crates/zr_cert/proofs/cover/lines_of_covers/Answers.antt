use Rattle.std.proofs.Common.{arith, ◌-◌, ◌^◌}
use Rattle.std.proofs.lemmas.List.{length-map}
use Rattle.zr_tree.specs.Nodes.{node_of}
use Rattle.zr_cert.specs.Certs.{nodes_of}
use Rattle.zr_cert.specs.Lines.{tree_lines}
use Rattle.zr_cert.proofs.Counting.{all_counted, more_counted, none_counted}
use Rattle.zr_cert.proofs.cover.lines_of_covers.Goals as goal

pub loop-cover-init : goal.loop-cover-init
loop-cover-init c = none_counted nodes_of tree_lines (2 ^ 64 - 1) c.args.covers.now

pub loop-cover-preserved : goal.loop-cover-preserved
loop-cover-preserved c =
    more_counted nodes_of tree_lines (2 ^ 64 - 1) c.args.covers.now c.loop-cover.cover-index c.loop-cover.lines c.cover-item.result c.loop-cover-test.true c.cover-item.is c.loop-cover.invariant _ (omega (arith, c.cover-item.result.nodes.ok.0, length-map c.cover-item.result.nodes.items node_of, c.len.ensures, c.saturating_add-lines.ensures))

pub returns : goal.returns
returns c =
    all_counted nodes_of tree_lines (2 ^ 64 - 1) c.args.covers.now c.loop-cover.cover-index c.loop-cover.lines (omega arith) c.loop-cover.invariant
