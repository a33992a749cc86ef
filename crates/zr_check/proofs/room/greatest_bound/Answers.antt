use Rattle.std.proofs.Common.{◌≤◌, ◌∙◌, sym, List, length, map}
use Rattle.std.proofs.lemmas.List.{length-map}
use Rattle.std.proofs.lemmas.List.Elements.{All-map}
use Rattle.zr_tree.specs.Nodes.{NodeOf, node_of}
use Rattle.zr_cert.specs.declared.cert.Bound.{Bound}
use Rattle.zr_cert.specs.Certs.{BoundOf, bound_of}
use Rattle.zr_check.proofs.Greatest.{each_within, more_within}
use Rattle.zr_check.proofs.room.greatest_bound.Goals as goal

pub loop-bound-preserved : goal.loop-bound-preserved
loop-bound-preserved c =
    let count = c.len.ensures ∙ c.bound-item.result.tree.nodes.ok.0
    ∙ sym (length-map c.bound-item.result.tree.nodes.items node_of) in
    rw c.max-most.ensures (more_within (λ (b : Bound). (bound_of b).tree) c.args.bounds.now
    c.loop-bound.bound-index c.loop-bound.most c.len.result c.bound-item.result
    c.loop-bound-test.true c.bound-item.is count c.loop-bound.invariant)

pub returns : goal.returns
returns c =
    let each = each_within (λ (b : Bound). (bound_of b).tree) c.args.bounds.now
    c.loop-bound.bound-index c.loop-bound.most c.loop-bound-test.false
    c.loop-bound.invariant in
    let bounds = c.args.bounds.now in
    All-map (λ (nodes : List NodeOf). length nodes ≤ c.loop-bound.most)
    (λ (b : BoundOf). b.tree) (map bound_of bounds)
    (All-map (λ (b : BoundOf). length b.tree ≤ c.loop-bound.most) bound_of bounds each)
