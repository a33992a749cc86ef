use Rattle.std.proofs.Common.{◌∙◌, sym}
use Rattle.std.proofs.lemmas.List.{length-map}
use Rattle.zr_tree.specs.Nodes.{node_of}
use Rattle.zr_cert.specs.Certs.{nodes_of}
use Rattle.zr_check.proofs.Greatest.{all_within, more_within}
use Rattle.zr_check.proofs.room.greatest_cover.Goals as goal

pub loop-cover-preserved : goal.loop-cover-preserved
loop-cover-preserved c =
    let count = c.len.ensures ∙ c.cover-item.result.nodes.ok.0
    ∙ sym (length-map c.cover-item.result.nodes.items node_of) in
    rw c.max-most.ensures (more_within nodes_of c.args.covers.now c.loop-cover.cover-index
    c.loop-cover.most c.len.result c.cover-item.result c.loop-cover-test.true c.cover-item.is
    count c.loop-cover.invariant)

pub returns : goal.returns
returns c =
    all_within nodes_of c.args.covers.now c.loop-cover.cover-index c.loop-cover.most
    c.loop-cover-test.false c.loop-cover.invariant
