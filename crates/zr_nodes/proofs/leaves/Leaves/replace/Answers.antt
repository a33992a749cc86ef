use Rattle.std.proofs.Common.{◌≡◌, arith, sym, ◌∙◌, ap, ◌++◌, take, drop, length, vec_len}
use Rattle.zr_nodes.specs.Lists.{numbers, replaced}
use Rattle.zr_nodes.specs.Places.{place_at, IsLinked, order_of}
use Rattle.zr_nodes.specs.declared.leaves.Place.TheVariants.{In}
use Rattle.zr_nodes.proofs.Chains.{order_is}
use Rattle.zr_nodes.proofs.Linked.{order_within, order_lacks, bridge_inside, bridged_again, lent_whole, linked_again, listing_of}
use Rattle.zr_nodes.proofs.leaves.Leaves.replace.Goals as goal

pub first_new-first-requires-clause-inside : goal.first_new-first-requires-clause-inside
first_new-first-requires-clause-inside c =
    rw c.deref.ensures.value
    (order_within _ _ _ _ (ap (λ v. v.order) c.self.view_is) c.self.invariant c.requires.left)

pub place_at-requires : goal.place_at-requires
place_at-requires c =
    rw c.deref-2.ensures.value
    (order_within _ _ _ _ (ap (λ v. v.order) c.self.view_is) c.self.invariant c.requires.left)

pub unreachable-requires : goal.unreachable-requires
unreachable-requires c =
    let place = ap (λ v. place_at v c.args.node) (sym c.deref-2.ensures.value)
    ∙ sym c.in_default.ensures in
    order_lacks _ _ _ _ (ap (λ v. v.order) c.self.view_is) c.self.invariant place c.requires.left

-- the leaf's place, and how many nodes there are
place_is : (c : goal.After-bridge-arg-1)
    → place_at c.self.inside.places.items c.args.node ≡ In c.in-In.previous c.in-In.next
place_is c = ap (λ v. place_at v c.args.node) (sym c.deref-2.ensures.value) ∙ sym c.in-In.ensures

size_is : (c : goal.After-bridge-arg-1)
    → vec_len c.self.inside.places ≡ length c.self.inside.places.items
size_is c = sym c.deref.ensures.len ∙ ap length c.deref.ensures.value

pub bridge-requires : goal.bridge-requires
bridge-requires c =
    let r =
    bridge_inside _ _ _ _ c.args.node _ c.args.count _ _ c.self.invariant (place_is c)
    (size_is c) c.push_row-last.ensures.items in
    rw c.deref_mut.ensures.value (record { inside = r.0; listed = r.1; before = r.2; behind = r.3 })

-- the links after the bridge
again : (c : goal.After-self-1)
    → IsLinked c.bridge.new.places c.bridge.new.start
    (replaced c.args.node (numbers (length c.self.inside.places.items) c.args.count)
    (order_of c.self.inside.places.items c.self.inside.first))
again c =
    let place = ap (λ v. place_at v c.args.node) (sym c.deref-2.ensures.value)
    ∙ sym c.in-In.ensures in
    let size = sym c.deref.ensures.len ∙ ap length c.deref.ensures.value in
    let first = rw c.deref.ensures.value at c.first_new-first.ensures in
    let places = rw c.deref_mut.ensures.value at c.bridge.ensures.places in
    let start = rw c.deref_mut.ensures.value at c.bridge.ensures.start in
    bridged_again _ _ _ _ _ c.args.node _ c.args.count _ _ _ _ _ c.self.invariant place size
    c.push_row-last.ensures.items first c.push_row-last.ensures.last
    (omega (arith, size, ap length c.deref_mut.ensures.value)) places start

whole : (c : goal.After-self-1)
    → take c.push_row-last.new.places.len
    (c.bridge.new.places ++ drop (length c.bridge.new.places) c.push_row-last.new.places.items)
    ≡ c.bridge.new.places
whole c =
    let e =
    ap length c.deref_mut.ensures.value in lent_whole _ _ _ (omega (arith, e))
    (omega (arith, e))

pub invariant_of-self : goal.invariant_of-self
invariant_of-self c = rw (whole c) (linked_again _ _ _ (again c))

pub returns-clause-order : goal.returns-clause-order
returns-clause-order c =
    let size = ap (λ v. v.size) c.self.view_is in
    let order = ap (λ v. v.order) c.self.view_is in
    rw (whole c, ← size, ← order) (order_is _ _ _ (again c))

pub returns-clause-listing : goal.returns-clause-listing
returns-clause-listing c =
    listing_of _ _ _ (ap (λ v. v.order) c.self.view_is) (ap (λ v. v.size) c.self.view_is)
    c.self.invariant
