use Rattle.std.proofs.Common.{arith, ◌-◌, ◌^◌}
use Rattle.std.proofs.lemmas.List.{length-map}
use Rattle.zr_tree.specs.Nodes.{node_of}
use Rattle.zr_cert.specs.Certs.{bound_of}
use Rattle.zr_cert.specs.Lines.{bound_lines}
use Rattle.zr_cert.proofs.Counting.{all_counted, more_counted, none_counted}
use Rattle.zr_cert.proofs.form.lines_of_bounds.Goals as goal

pub loop-bound-init : goal.loop-bound-init
loop-bound-init c = none_counted bound_of bound_lines (2 ^ 64 - 1) c.args.bounds.now

pub loop-bound-preserved : goal.loop-bound-preserved
loop-bound-preserved c =
    more_counted bound_of bound_lines (2 ^ 64 - 1) c.args.bounds.now c.loop-bound.bound-index c.loop-bound.lines c.bound-item.result c.loop-bound-test.true c.bound-item.is c.loop-bound.invariant _ (omega (arith, c.bound-item.result.tree.nodes.ok.0, length-map c.bound-item.result.tree.nodes.items node_of, c.len.ensures, c.saturating_add-lines.ensures))

pub returns : goal.returns
returns c =
    all_counted bound_of bound_lines (2 ^ 64 - 1) c.args.bounds.now c.loop-bound.bound-index c.loop-bound.lines (omega arith) c.loop-bound.invariant
