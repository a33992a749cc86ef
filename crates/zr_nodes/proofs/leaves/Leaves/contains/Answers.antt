use Rattle.std.proofs.Common.{sym, ◌∙◌, ap, refl}
use Rattle.zr_nodes.specs.Places.{place_at}
use Rattle.zr_nodes.proofs.Linked.{order_has, order_lacks}
use Rattle.zr_nodes.proofs.leaves.Leaves.contains.Goals as goal

pub returns-in-In : goal.returns-in-In
returns-in-In c =
    let place = ap (λ v. place_at v c.args.node) (sym c.deref.ensures.value)
    ∙ sym c.in-In.ensures in (
      λ _. order_has _ _ _ _ _ _ (ap (λ v. v.order) c.self.view_is) c.self.invariant place,
      λ _.
          refl,
    )

pub returns-in_default : goal.returns-in_default
returns-in_default c =
    let place = ap (λ v. place_at v c.args.node) (sym c.deref.ensures.value)
    ∙ sym c.in_default.ensures in (
      λ t. cc,
      λ h. absurd
          (order_lacks _ _ _ _ (ap (λ v. v.order) c.self.view_is) c.self.invariant place h),
    )
