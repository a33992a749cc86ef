use Rattle.std.proofs.Common.{ap, subst, ◌∙◌}
use Rattle.zr_nodes.specs.Lists.{after}
use Rattle.zr_nodes.specs.Forests.{IsForest}
use Rattle.zr_nodes.proofs.Kinship.{listed_inside, after_listed}
use Rattle.zr_nodes.proofs.forest.Forest.next_left.Goals as goal

pub returns-clause-listed : goal.returns-clause-listed
returns-clause-listed g c =
    let kept = subst (λ v. IsForest v) c.self.view_is c.self.invariant.forest in
    let is = c.next.ensures ∙ ap (λ v. after c.args.node v.left) c.self.view_is in
    after_listed c.args.self.now kept c.args.node c.next.result is

pub returns-clause-inside : goal.returns-clause-inside
returns-clause-inside g c =
    let kept = subst (λ v. IsForest v) c.self.view_is c.self.invariant.forest in
    listed_inside c.args.self.now kept c.next.result (returns-clause-listed g c)
