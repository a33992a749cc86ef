use Rattle.std.proofs.Common.{rules, arith, sym, pos, FitsSigned}
use Rattle.std.specs.Int.{w64, w128}
use Rattle.std.proofs.lemmas.Int.{ints, to_z-of_z}
use Rattle.zr_base.proofs.CrossLaws.{cross_ok}
use Rattle.zr_base.proofs.SumSteps.{sum_steps_exact}
use Rattle.zr_base.proofs.row.Row.holds.Goals as goal

pub returns-clause-exact : goal.returns-clause-exact
returns-clause-exact c =
    let le : FitsSigned w64 c.args.self.now.le = search rules in
    let fr : FitsSigned w128 c.from.result = search rules in
    let d : FitsSigned w128 c.den.result = search rules in
    let fl : FitsSigned w128 c.in_ok-left.left = search rules in
    let fm : FitsSigned w128 c.in_ok-right.right = search rules in
    let left = sum_steps_exact (pos 0) c.in_ok-left.left _ (sym (rw c.as_slice.ensures at c.in_ok-left.ensures)) in
    let right = (cross_ok _ _ _ (rw (simp to_z-of_z at c.from.ensures, c.den.ensures.value) at (simp to_z-of_z at c.in_ok-right.ensures))).0 in
    simp to_z-of_z (λ h. omega (arith, ints, left, right, h), λ h. sym (omega (arith, ints, left, right, h)))
