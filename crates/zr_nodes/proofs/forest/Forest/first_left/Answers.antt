use Rattle.std.proofs.Common.{ap, subst, ◌∙◌}
use Rattle.zr_nodes.specs.Lists.{first}
use Rattle.zr_nodes.specs.Forests.{IsForest}
use Rattle.zr_nodes.proofs.Kinship.{listed_inside, first_listed}
use Rattle.zr_nodes.proofs.forest.Forest.first_left.Goals as goal

pub returns-clause-inside : goal.returns-clause-inside
returns-clause-inside g c =
    let kept = subst (λ v. IsForest v) c.self.view_is c.self.invariant.forest in
    let is = c.first.ensures ∙ ap (λ v. first v.left) c.self.view_is in
    let listed = first_listed c.args.self.now kept c.first.result is in
    listed_inside c.args.self.now kept c.first.result listed
