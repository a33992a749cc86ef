use Rattle.std.proofs.Common.{rules, arith, ◌≡◌, sym, pos, ◌-ℤ◌, FitsSigned, Result, Ok, Err, ℤ, IfOk}
use Rattle.std.specs.Int.{w128}
use Rattle.std.proofs.lemmas.Int.{ints, to_z-of_z}
use Rattle.zr_base.specs.declared.step.Wide.{Wide}
use Rattle.zr_base.specs.Steps.{IsNarrow}
use Rattle.zr_base.specs.Sums.{sum_step}
use Rattle.zr_base.proofs.SumSteps.{as_step, sum_step_narrow}
use Rattle.zr_base.proofs.step.add_product.Goals as goal
use Rattle.zr_base.proofs.step.add_product.Goals.{After-cross}

stepped : (c : After-cross) → c.cross.result ≡ sum_step c.args.sum (c.args.a, c.args.b)
stepped c =
    let a : FitsSigned w128 c.args.a = search rules in
    let b : FitsSigned w128 c.args.b = search rules in
    let s : FitsSigned w128 c.args.sum = search rules in
    let m : FitsSigned w128 (pos 0 -ℤ c.args.sum) = omega (arith, ints, c.requires) in
    rw (as_step c.args.sum) at (simp to_z-of_z at c.cross.ensures)

narrow_if : (r : Result ℤ Wide) (s : ℤ) (t : ℤ × ℤ) → r ≡ sum_step s t → IfOk r IsNarrow
narrow_if (Ok v) s t e = sum_step_narrow s v t (sym e)
narrow_if (Err w) s t e = search rules

pub returns-clause-step : goal.returns-clause-step
returns-clause-step c = stepped (goal.at.returns-clause-step c).After-cross

pub returns-clause-narrow : goal.returns-clause-narrow
returns-clause-narrow c = narrow_if c.cross.result c.args.sum (c.args.a, c.args.b) (stepped (goal.at.returns-clause-narrow c).After-cross)
