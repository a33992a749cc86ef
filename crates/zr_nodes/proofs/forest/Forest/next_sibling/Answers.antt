use Rattle.std.proofs.Common.{ap, subst, ◌∙◌}
use Rattle.zr_nodes.specs.Lists.{after}
use Rattle.zr_nodes.specs.Forests.{siblings, IsForest}
use Rattle.zr_nodes.proofs.Kinship.{next_is_sibling}
use Rattle.zr_nodes.proofs.forest.Forest.next_sibling.Goals as goal

pub returns-clause-sibling : goal.returns-clause-sibling
returns-clause-sibling g c =
    let kept = subst (λ v. IsForest v) c.self.view_is c.self.invariant.forest in
    let here = c.args.node in
    let is = c.next_sibling.ensures
    ∙ ap (λ v. after here (siblings v.parents here)) c.self.view_is in
    next_is_sibling c.args.self.now kept here c.next_sibling.result is
