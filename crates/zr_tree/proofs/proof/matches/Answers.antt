use Rattle.std.proofs.Common.{◌≡◌, rules, arith, ap, ◌∙◌, ℤ, pos, ◌*ℤ◌, get_or, FitsSigned}
use Rattle.std.specs.Int.{w128}
use Rattle.std.proofs.lemmas.Int.{to_z-of_z}
use Rattle.std.proofs.lemmas.Result.{err_from_is_err_and}
use Rattle.zr_base.proofs.SumSteps.{get_or_default}
use Rattle.zr_base.proofs.Telling.{all_tested, more, none_tested, stops}
use Rattle.zr_tree.proofs.ProofLaws.{scaled_wide}
use Rattle.zr_tree.proofs.proof.matches.Goals as goal

pub loop-j-init : goal.loop-j-init
loop-j-init c =
    let f : FitsSigned w128 c.args.scale = search rules in
    simp to_z-of_z (none_tested (λ j c'. get_or c.args.sums.now j (pos 0) ≡ c.args.scale *ℤ c') (scaled_wide c.args.scale) c.args.coef.now)

pub loop-j-preserved : goal.loop-j-preserved
loop-j-preserved c =
    let f : FitsSigned w128 c.args.scale = search rules in
    let x = get_or c.args.coef.now c.loop-j.j (pos 0) in
    let g : FitsSigned w128 (get_or c.args.coef.now c.loop-j.j (pos 0)) = search rules in
    let k : FitsSigned w128 (get_or c.args.sums.now c.loop-j.j (pos 0)) = search rules in
    let t = simp to_z-of_z at c.is_multiple.ensures in
    simp to_z-of_z (more (λ j c'. get_or c.args.sums.now j (pos 0) ≡ c.args.scale *ℤ c') (scaled_wide c.args.scale) c.args.coef.now c.loop-j.j x c.loop-j-test.true (get_or_default c.args.coef.now c.loop-j.j (pos 0) x c.loop-j-test.true) c.loop-j.all (simp to_z-of_z at c.loop-j.invariant) c.is_multiple.result c.in_ok-all.field-0 t c.in_ok-all.was)

pub returns-in_err-all : goal.returns-in_err-all
returns-in_err-all c =
    let f : FitsSigned w128 c.args.scale = search rules in
    let x = get_or c.args.coef.now c.loop-j.j (pos 0) in
    let g : FitsSigned w128 (get_or c.args.coef.now c.loop-j.j (pos 0)) = search rules in
    let k : FitsSigned w128 (get_or c.args.sums.now c.loop-j.j (pos 0)) = search rules in
    let t = simp to_z-of_z at c.is_multiple.ensures in
    let p = err_from_is_err_and c.from_residual.result c.from_residual.ensures.1 in
    rw (p.1, p.2) (stops (λ j c'. get_or c.args.sums.now j (pos 0) ≡ c.args.scale *ℤ c') (scaled_wide c.args.scale) c.args.coef.now c.loop-j.j x c.loop-j-test.true (get_or_default c.args.coef.now c.loop-j.j (pos 0) x c.loop-j-test.true) c.loop-j.all (simp to_z-of_z at c.loop-j.invariant) c.is_multiple.result _ t c.in_err-all.was)

pub returns : goal.returns
returns c =
    let f : FitsSigned w128 c.args.scale = search rules in
    let t = all_tested (λ j c'. get_or c.args.sums.now j (pos 0) ≡ c.args.scale *ℤ c') (scaled_wide c.args.scale) c.args.coef.now c.loop-j.j c.loop-j.all (omega arith) (simp to_z-of_z at c.loop-j.invariant) in
    (t.0, (λ h j below. t.1.0 h j (pos 0) below, λ h. t.1.1 (λ j d below. h j below ∙ ap (λ (a : ℤ). c.args.scale *ℤ a) (get_or_default c.args.coef.now j (pos 0) d below))))
