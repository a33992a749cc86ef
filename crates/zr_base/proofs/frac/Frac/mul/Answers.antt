use Rattle.std.proofs.Common.{rules, FitsSigned}
use Rattle.std.specs.Int.{w128}
use Rattle.std.proofs.lemmas.Int.{to_z-of_z}
use Rattle.zr_base.proofs.Reduced.{product_if}
use Rattle.zr_base.proofs.frac.Frac.mul.Goals as goal

pub returns-clause-exact : goal.returns-clause-exact
returns-clause-exact c =
    let a : FitsSigned w128 c.self.inside.num = search rules in
    let b : FitsSigned w128 c.self.inside.den = search rules in
    let d : FitsSigned w128 c.other.inside.num = search rules in
    let e : FitsSigned w128 c.other.inside.den = search rules in
    rw (← c.self.view_is, ← c.other.view_is) (product_if _ _ c.self.invariant.ratio.positive c.other.invariant.ratio.positive c.product_of.result (simp to_z-of_z at c.product_of.ensures))
