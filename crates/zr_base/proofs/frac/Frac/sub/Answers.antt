use Rattle.std.proofs.Common.{rules, arith, ◌≡◌, ◌∙◌, pos, ◌-ℤ◌, FitsSigned}
use Rattle.std.specs.Int.{w128}
use Rattle.std.proofs.lemmas.Int.{ints, to_z-of_z}
use Rattle.zr_base.specs.Lowest.{sub_of}
use Rattle.zr_base.proofs.Reduced.{sub_of_by, difference_if}
use Rattle.zr_base.proofs.frac.Frac.sub.Goals as goal
use Rattle.zr_base.proofs.frac.Frac.sub.Goals.{After-sum_of}

made : (c : After-sum_of) → c.sum_of.result ≡ sub_of (record { num = c.self.inside.num; den = c.self.inside.den }) (record { num = c.other.inside.num; den = c.other.inside.den })
made c =
    let a : FitsSigned w128 c.self.inside.num = search rules in
    let b : FitsSigned w128 c.self.inside.den = search rules in
    let d : FitsSigned w128 c.other.inside.num = search rules in
    let e : FitsSigned w128 c.other.inside.den = search rules in
    let m : FitsSigned w128 (pos 0 -ℤ c.other.inside.num) = omega (arith, ints, c.other.invariant.ratio.narrow_num) in
    simp to_z-of_z at c.sum_of.ensures ∙ sub_of_by c.self.inside.num c.self.inside.den c.other.inside.num c.other.inside.den

pub returns-clause-steps : goal.returns-clause-steps
returns-clause-steps c =
    rw (← c.self.view_is, ← c.other.view_is) (made (goal.at.returns-clause-steps c).After-sum_of)

pub returns-clause-exact : goal.returns-clause-exact
returns-clause-exact c =
    rw (← c.self.view_is, ← c.other.view_is) (difference_if _ _ c.self.invariant.ratio.positive c.other.invariant.ratio.positive c.sum_of.result (made (goal.at.returns-clause-exact c).After-sum_of))
