use Rattle.std.proofs.Common.{◌≡◌, ◌<◌, ◌∙◌, Ok, Err, All, length, pos, sym, subst}
use Rattle.std.proofs.lemmas.Result.{err_from_is_err_and}
use Rattle.zr_base.specs.Fractions.{IsSame, sum_over, whole}
use Rattle.zr_base.specs.Points.{PointOf, value_of}
use Rattle.zr_game.specs.Costs.{own_at, point_of}
use Rattle.zr_game.specs.CostSteps.{own_term, sum_made}
use Rattle.zr_game.specs.Players.{player_of}
use Rattle.zr_game.proofs.CostSums.{cost_exact, cross_made, cross_wide, own_wide, point_is}
use Rattle.zr_game.proofs.costs.player_cost.Goals as goal
use Rattle.zr_game.proofs.costs.player_cost.Goals.{After-own_sum, In_ok-own}

read : (c : After-own_sum) → c.index-points-i.result ≡ point_of c.args.points.now c.args.i
read c =
    point_is c.args.points.now c.args.i c.index-points-i.result c.requires.here c.index-points-i.is

-- the own terms were made
own_made : (c : In_ok-own)
    → sum_made (own_term (point_of c.args.points.now c.args.i)) (whole (pos 0))
    c.args.player.now.cost.items ≡ Ok c.in_ok-own.own
own_made c =
    let e = rw c.as_slice.ensures at c.in_ok-own.ensures.steps in
    let cost = c.args.player.now.cost.items in
    let own = c.in_ok-own.own in
    let points = c.args.points.now in
    let i = c.args.i in
    let x = point_is points i c.index-points-i.result c.requires.here c.index-points-i.is in
    sym (subst (λ (p : PointOf). Ok own ≡ sum_made (own_term p) (whole (pos 0)) cost) x e)

pub own_sum-requires : goal.own_sum-requires
own_sum-requires c =
    let points = c.args.points.now in
    let i = c.args.i in
    let x = sym (point_is points i c.index-points-i.result c.requires.here c.index-points-i.is) in
    let cost = c.args.player.now.cost.items in
    rw c.as_slice.ensures (subst (λ (p : PointOf). All (λ t. t.0 < length p.num) cost) x
    c.requires.own)

pub cross_sum-requires : goal.cross_sum-requires
cross_sum-requires c = record {
  terms = rw c.deref.ensures.value c.requires.cross;
  lowest = c.in_ok-own.ensures.lowest;
}

pub other_sum-requires : goal.other_sum-requires
other_sum-requires c = record {
  terms = rw c.deref-2.ensures.value c.requires.others;
  lowest = c.in_ok-crossed.ensures.lowest;
}

pub returns-in_err-own : goal.returns-in_err-own
returns-in_err-own c =
    let p = err_from_is_err_and c.from_residual.result c.from_residual.ensures.1 in
    let x = read ((goal.at.returns-in_err-own c).After-own_sum) in
    let cost = c.args.player.now.cost.items in
    let w = c.in_err-own.field-0.0 in
    let e = subst (λ (p : PointOf). Err w ≡ sum_made (own_term p) (whole (pos 0)) cost) x
    (rw c.as_slice.ensures at c.in_err-own.ensures.steps) in
    record {
      steps = rw (p.1, p.2) (own_wide (player_of c.args.player.now) c.args.i c.args.points.now w
          (sym e));
      exact = rw p.1 tt;
      lowest = rw p.1 tt;
    }

pub returns-in_err-crossed : goal.returns-in_err-crossed
returns-in_err-crossed c =
    let r = c.from_residual-in_err-crossed in
    let p = err_from_is_err_and r.result r.ensures.1 in
    let own = c.in_ok-own.own in
    let first = own_made ((goal.at.returns-in_err-crossed c).In_ok-own) in
    let second = sym (rw c.deref.ensures.value at c.in_err-crossed.ensures.steps) in
    record {
      steps = rw (p.1, p.2) (cross_wide (player_of c.args.player.now) c.args.i c.args.points.now own
          first c.in_err-crossed.field-0.0 second);
      exact = rw p.1 tt;
      lowest = rw p.1 tt;
    }

pub returns : goal.returns
returns c =
    let player = player_of c.args.player.now in
    let points = c.args.points.now in
    let own = c.in_ok-own.own in
    let crossed = c.in_ok-crossed.crossed in
    let first = own_made ((goal.at.returns c).In_ok-own) in
    let x = read ((goal.at.returns c).After-own_sum) in
    let terms = rw c.as_slice.ensures at c.in_ok-own.ensures.exact in
    let same = subst (λ (p : PointOf). IsSame own (sum_over player.cost (own_at (value_of p)))) x
    terms in
    let second = sym (rw c.deref.ensures.value at c.in_ok-crossed.ensures.steps) in
    let both = rw c.deref.ensures.value at c.in_ok-crossed.ensures.exact in
    let made = rw c.deref-2.ensures.value at c.other_sum.ensures.steps in
    let all = rw c.deref-2.ensures.value at c.other_sum.ensures.exact in
    record {
      steps = made ∙ cross_made player c.args.i points own first crossed second;
      exact = cost_exact player c.args.i points own crossed c.other_sum.result same both all;
      lowest = c.other_sum.ensures.lowest;
    }
