use Rattle.std.proofs.Common.{◌≡◌, arith, rules, ◌∙◌, pos, get_or, FitsSigned}
use Rattle.std.specs.Int.{w128}
use Rattle.std.proofs.lemmas.Int.{to_z-of_z}
use Rattle.zr_base.proofs.SumSteps.{get_or_default}
use Rattle.zr_game.proofs.Checks.{all_checked, more_checked}
use Rattle.zr_tree.proofs.end.are_zero.Goals as goal

pub loop-sum-preserved : goal.loop-sum-preserved
loop-sum-preserved c =
    let x = get_or c.args.sums.now c.loop-sum.sum-index (pos 0) in
    let f : FitsSigned w128 (get_or c.args.sums.now c.loop-sum.sum-index (pos 0)) = search rules in
    more_checked (λ j sum. sum ≡ pos 0) c.args.sums.now c.loop-sum.sum-index x c.loop-sum-test.true
    (get_or_default c.args.sums.now c.loop-sum.sum-index (pos 0) x c.loop-sum-test.true)
    c.loop-sum.all c.loop-sum.invariant c.is_zero-all.result
    (simp to_z-of_z at c.is_zero-all.ensures)

pub returns : goal.returns
returns c =
    let all = all_checked (λ j sum. sum ≡ pos 0) c.args.sums.now c.loop-sum.sum-index
    c.loop-sum.all (omega arith) (omega arith) c.loop-sum.invariant in (
      λ h j below. all.0 h j (pos 0) below,
      λ h. all.1 (λ j d below. get_or_default c.args.sums.now j d (pos 0) below ∙ h j below),
    )
