use Rattle.std.proofs.Common.{◌≡◌, ℕ, ◌<◌, ◌∙◌, rules, Ok, IfOk, length, subst, sym, FitsSigned}
use Rattle.std.specs.Int.{w64}
use Rattle.std.proofs.lemmas.Int.{to_z-of_z}
use Rattle.zr_base.specs.Fractions.{IsSame, times}
use Rattle.zr_base.specs.Points.{PointOf, value_of}
use Rattle.zr_game.specs.Costs.{own_at, point_of, value_at_place}
use Rattle.zr_game.specs.CostSteps.{own_term, times_value}
use Rattle.zr_game.proofs.CostSums.{other_exact, other_made, point_is}
use Rattle.zr_game.proofs.costs.other_product.Goals as goal
use Rattle.zr_game.proofs.costs.other_product.Goals.{After-own_product, After-times_value_at}

first_read : (c : After-own_product)
    → c.index-points-t.result ≡ point_of c.args.points.now c.args.t.now.first.0
first_read c =
    let t = c.args.t.now in
    point_is c.args.points.now t.first.0 c.index-points-t.result c.requires.0.0 c.index-points-t.is

second_read : (c : After-times_value_at)
    → c.index-points-player.result ≡ point_of c.args.points.now c.in-Some.player
second_read c =
    let x = c.index-points-player in
    let h = c.requires.1 (c.in-Some.player, c.in-Some.var) c.in-Some.is in
    point_is c.args.points.now c.in-Some.player x.result h.0 x.is

pub bounds-points-player : goal.bounds-points-player
bounds-points-player c = (c.requires.1 (c.in-Some.player, c.in-Some.var) c.in-Some.is).0

pub times_value_at-requires : goal.times_value_at-requires
times_value_at-requires c =
    let x = c.index-points-player in
    let v = c.in-Some.var in
    let h = c.requires.1 (c.in-Some.player, v) c.in-Some.is in
    let read = point_is c.args.points.now c.in-Some.player x.result h.0 x.is in
    subst (λ (p : PointOf). v < length p.num) (sym read) h.1

pub returns-in-Some-clause-steps : goal.returns-in-Some-clause-steps
returns-in-Some-clause-steps c =
    let points = c.args.points.now in
    let t = c.args.t.now in
    let n : FitsSigned w64 t.coef = search rules in
    let first = c.in_ok-first.first in
    let at : ℕ × ℕ = (c.in-Some.player, c.in-Some.var) in
    let x = first_read ((goal.at.returns-in-Some-clause-steps c).After-own_product) in
    let y = second_read c in
    let made = simp to_z-of_z at c.in_ok-first.ensures.steps in
    let one = sym (subst (λ (p : PointOf). Ok first ≡ own_term p (t.first.1, t.coef)) x made) in
    let two = c.times_value_at.ensures.steps in
    let r = c.times_value_at.result in
    subst (λ (p : PointOf). r ≡ times_value first p at.1) y two ∙
    other_made t at first c.in-Some.is points one

pub returns-in-Some-clause-exact : goal.returns-in-Some-clause-exact
returns-in-Some-clause-exact c =
    let points = c.args.points.now in
    let t = c.args.t.now in
    let n : FitsSigned w64 t.coef = search rules in
    let first = c.in_ok-first.first in
    let at : ℕ × ℕ = (c.in-Some.player, c.in-Some.var) in
    let x = first_read ((goal.at.returns-in-Some-clause-exact c).After-own_product) in
    let y = second_read c in
    let same = simp to_z-of_z at c.in_ok-first.ensures.exact in
    let one = subst (λ (p : PointOf). IsSame first (own_at (value_of p) (t.first.1, t.coef))) x same
    in
    let r = c.times_value_at.result in
    let two = subst (λ (p : PointOf). IfOk r (λ f. IsSame f (times first (value_of p at.1)))) y
    c.times_value_at.ensures.exact in
    other_exact t at first c.in-Some.is (value_at_place points) r one two
