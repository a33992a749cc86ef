use Rattle.zr_base.specs.Fractions.{times}
use Rattle.zr_base.specs.Points.{value_of}
use Rattle.zr_game.proofs.CostSums.{if_made, times_last}
use Rattle.zr_game.proofs.costs.times_value_at.Goals as goal

pub returns-clause-exact : goal.returns-clause-exact
returns-clause-exact c =
    let a = c.args.a in
    let b = c.value.result in
    let x = value_of c.args.point.now c.args.v in
    if_made c.mul.result (times a b) (times a x) (λ f e. times_last f a b x e c.value.ensures.same)
    c.mul.ensures.exact
