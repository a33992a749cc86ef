use Rattle.std.proofs.Common.{◌≡◌, ◌++◌, arith, ap, ◌∙◌, length, set, replicate, Some}
use Rattle.std.proofs.lemmas.List.{length-map}
use Rattle.zr_nodes.specs.Kin.{parents_of, IsKin}
use Rattle.zr_nodes.proofs.Families.{written, kin_written}
use Rattle.zr_nodes.proofs.branches.Branches.add_children.Goals as goal

both : (c : goal.After-self-1)
    → IsKin (set c.push_brood.new.nodes.items c.index.result
    (written c.index_mut.result.now c.new-first.result))
    × (parents_of
    (set c.push_brood.new.nodes.items c.index.result
    (written c.index_mut.result.now c.new-first.result))
    ≡ parents_of c.self.inside.nodes.items ++ replicate c.args.count (Some c.args.node))
both c =
    let view = ap (λ v. v.parents) c.self.view_is in
    let childless = rw (← view) at c.requires.childless in
    kin_written _ _ c.args.node _ c.args.count _ _ c.index_mut.result.now c.self.invariant
    (omega (arith, ap length view, length-map c.self.inside.nodes.items (λ b. b.parent)))
    childless c.requires.some (omega arith) c.push_brood.ensures.items c.index.ensures.value
    (c.new-first.ensures ∙ c.len.ensures) c.index_mut.ensures.value

pub invariant_of-self : goal.invariant_of-self
invariant_of-self c = (both c).0

pub returns-clause-parents : goal.returns-clause-parents
returns-clause-parents c =
    let view = ap (λ v. v.parents) c.self.view_is in rw (← view) (both c).1
