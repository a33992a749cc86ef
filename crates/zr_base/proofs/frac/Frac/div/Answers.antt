use Rattle.std.proofs.Common.{rules, ◌≡◌, ◌≢◌, ◌∙◌, sym, subst, pos, FitsSigned}
use Rattle.std.specs.Int.{w128}
use Rattle.std.proofs.lemmas.Int.{to_z-of_z}
use Rattle.zr_base.specs.Fractions.{Fraction}
use Rattle.zr_base.specs.Lowest.{div_of}
use Rattle.zr_base.proofs.Reduced.{div_of_by, quotient_if}
use Rattle.zr_base.proofs.frac.Frac.div.Goals as goal
use Rattle.zr_base.proofs.frac.Frac.div.Goals.{After-product_of}

made : (c : After-product_of) → c.product_of.result ≡ div_of (record { num = c.self.inside.num; den = c.self.inside.den }) (record { num = c.other.inside.num; den = c.other.inside.den })
made c =
    let a : FitsSigned w128 c.self.inside.num = search rules in
    let b : FitsSigned w128 c.self.inside.den = search rules in
    let d : FitsSigned w128 c.other.inside.num = search rules in
    let e : FitsSigned w128 c.other.inside.den = search rules in
    let n : FitsSigned w128 c.turned-num.result.0 = search rules in
    let m : FitsSigned w128 c.turned-num.result.1 = search rules in
    simp to_z-of_z at c.product_of.ensures ∙ div_of_by (record { num = c.self.inside.num; den = c.self.inside.den }) (record { num = c.other.inside.num; den = c.other.inside.den }) c.turned-num.result.0 c.turned-num.result.1 (simp to_z-of_z at c.turned-num.ensures.value)

pub returns-clause-steps : goal.returns-clause-steps
returns-clause-steps c =
    rw (← c.self.view_is, ← c.other.view_is) (made (goal.at.returns-clause-steps c).After-product_of)

pub returns-clause-exact : goal.returns-clause-exact
returns-clause-exact c =
    rw (← c.self.view_is, ← c.other.view_is) (quotient_if _ _ c.self.invariant.ratio.positive c.other.invariant.ratio.positive (subst (λ (f : Fraction). f.num ≢ pos 0) (sym c.other.view_is) c.requires) c.product_of.result (made (goal.at.returns-clause-exact c).After-product_of))
