use Rattle.std.proofs.Common.{rules, IfOk, subst, FitsSigned}
use Rattle.std.specs.Int.{w64}
use Rattle.std.proofs.lemmas.Int.{to_z-of_z}
use Rattle.zr_base.specs.Fractions.{IsSame, times}
use Rattle.zr_base.specs.Points.{PointOf, value_of}
use Rattle.zr_game.specs.Costs.{own_at}
use Rattle.zr_game.proofs.CostSums.{both_exact, point_is}
use Rattle.zr_game.proofs.costs.cross_product.Goals as goal

pub returns-clause-exact : goal.returns-clause-exact
returns-clause-exact c =
    let points = c.args.points.now in
    let t = c.args.t.now in
    let a = c.in_ok-first.first in
    let n : FitsSigned w64 t.coef = search rules in
    let x = point_is points c.args.i c.index-points-i.result c.requires.here c.index-points-i.is in
    let y = point_is points t.player c.index-points-t.result c.requires.there c.index-points-t.is in
    let own = simp to_z-of_z at c.in_ok-first.ensures.exact in
    let first = subst (λ (p : PointOf). IsSame a (own_at (value_of p) (t.own, t.coef))) x own in
    let r = c.times_value_at.result in
    let second = subst (λ (p : PointOf). IfOk r (λ f. IsSame f (times a (value_of p t.var)))) y
    c.times_value_at.ensures.exact in
    both_exact c.args.i points t a r first second
