use Rattle.std.proofs.Common.{◌≡◌, ⊎_elim, arith, ap, subst, [], length, refl}
use Rattle.zr_nodes.specs.Lists.{Has, without}
use Rattle.zr_nodes.proofs.ListLemmas.{has_replaced, length-replaced}
use Rattle.zr_nodes.proofs.leaves.Leaves.move_front.Goals as goal

pub push_front-requires-clause-inside : goal.push_front-requires-clause-inside
push_front-requires-clause-inside c =
    omega (
      arith,
      c.replace.ensures.size,
      c.replace.ensures.listing.inside c.args.node
          c.requires.left,
    )

pub push_front-requires-clause-apart : goal.push_front-requires-clause-apart
push_front-requires-clause-apart c =
    λ h. let left : Has (without c.args.node c.args.self.now.order) c.args.node =
    subst (λ v. Has v c.args.node) c.replace.ensures.order h in
    ⊎_elim
    (λ b. absurd b)
    (λ a. a.1 refl)
    (has_replaced c.args.self.now.order [] c.args.node c.args.node c.replace.ensures.listing.once
    left)

pub push_front-requires-clause-short : goal.push_front-requires-clause-short
push_front-requires-clause-short c =
    let e : length c.replace.new.self.order
    ≡ length (without c.args.node c.args.self.now.order) = ap length c.replace.ensures.order in
    omega (
      arith,
      e,
      length-replaced c.args.self.now.order [] c.args.node c.requires.left,
      c.replace.ensures.size,
      c.replace.ensures.listing.short,
    )
