use Rattle.std.proofs.Common.{◌≡◌, arith, ap, subst, ◌∷◌, ◌++◌, Some, None, set, take, drop, length}
use Rattle.zr_nodes.specs.Lists.{Has}
use Rattle.zr_nodes.specs.Places.{IsLinked, order_of}
use Rattle.zr_nodes.specs.declared.leaves.Place.TheVariants.{In}
use Rattle.zr_nodes.proofs.Chains.{order_is}
use Rattle.zr_nodes.proofs.Linked.{fronted_again, lent_whole, linked_again}
use Rattle.zr_nodes.proofs.leaves.Leaves.push_front.Goals as goal

-- the links after the node was put in front
again : (c : goal.After-self-3-1)
    → IsLinked (set c.lead_back.new.places c.index.result (In None c.self.inside.first))
    (Some c.args.node) (c.args.node ∷ order_of c.self.inside.places.items c.self.inside.first)
again c =
    let size = ap (λ v. v.size) c.self.view_is in
    let order = ap (λ v. v.order) c.self.view_is in
    let places = rw c.deref_mut.ensures.value at c.lead_back.ensures in
    let lacks =
    λ (h : Has (order_of c.self.inside.places.items c.self.inside.first) c.args.node).
    c.requires.apart (subst (λ v. Has v c.args.node) order h) in
    fronted_again _ _ _ _ c.args.node _ c.self.invariant lacks
    (omega (arith, size)) (omega (arith, size, ap length order))
    (omega (arith, ap length c.deref_mut.ensures.value)) places c.index.ensures.value

whole : (c : goal.After-self-3-1)
    → take c.self.inside.places.len
    (c.lead_back.new.places ++ drop (length c.lead_back.new.places) c.self.inside.places.items)
    ≡ c.lead_back.new.places
whole c =
    let e =
    ap length c.deref_mut.ensures.value in lent_whole _ _ _ (omega (arith, e))
    (omega (arith, e))

pub invariant_of-self : goal.invariant_of-self
invariant_of-self c = rw (whole c) (linked_again _ _ _ (again c))

pub returns-clause-order : goal.returns-clause-order
returns-clause-order c =
    let order = ap (λ v. v.order) c.self.view_is in rw (whole c, ← order) (order_is _ _ _ (again c))
