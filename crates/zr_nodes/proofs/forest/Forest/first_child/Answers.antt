use Rattle.std.proofs.Common.{ap, subst, ◌∙◌}
use Rattle.zr_nodes.specs.Lists.{first}
use Rattle.zr_nodes.specs.Forests.{children, IsForest}
use Rattle.zr_nodes.proofs.Kinship.{first_is_child}
use Rattle.zr_nodes.proofs.forest.Forest.first_child.Goals as goal

pub returns-clause-child : goal.returns-clause-child
returns-clause-child g c =
    let kept = subst (λ v. IsForest v) c.self.view_is c.self.invariant.forest in
    let is = c.first_child.ensures
    ∙ ap (λ v. first (children v.parents c.args.node)) c.self.view_is in
    first_is_child c.args.self.now kept c.args.node c.first_child.result is
