use Rattle.std.proofs.Common.{ap, ◌∙◌}
use Rattle.zr_nodes.specs.Places.{place_at, next_of}
use Rattle.zr_nodes.proofs.Linked.{order_within, order_after}
use Rattle.zr_nodes.proofs.leaves.Leaves.next.Goals as goal

pub next_at-requires : goal.next_at-requires
next_at-requires c =
    rw c.deref.ensures.value
    (order_within _ _ _ _ (ap (λ v. v.order) c.self.view_is) c.self.invariant c.requires)

pub returns : goal.returns
returns c =
    c.next_at.ensures
    ∙ ap (λ v. next_of (place_at v c.args.node)) c.deref.ensures.value
    ∙ order_after _ _ _ _ (ap (λ v. v.order) c.self.view_is) c.self.invariant c.requires
