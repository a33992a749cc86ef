use Rattle.std.proofs.Common.{ap, subst, ◌∙◌}
use Rattle.zr_nodes.specs.Forests.{parent_of, IsForest}
use Rattle.zr_nodes.proofs.Kinship.{parent_child}
use Rattle.zr_nodes.proofs.forest.Forest.parent.Goals as goal

pub returns-clause-child : goal.returns-clause-child
returns-clause-child g c =
    let kept = subst (λ v. IsForest v) c.self.view_is c.self.invariant.forest in
    let is = c.parent.ensures ∙ ap (λ v. parent_of v.parents c.args.node) c.self.view_is in
    parent_child c.args.self.now kept c.args.node c.parent.result c.requires is
