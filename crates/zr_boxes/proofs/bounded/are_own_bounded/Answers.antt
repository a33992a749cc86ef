use Rattle.std.proofs.Common.{ℕ, ℤ, List, arith, pos, get_or}
use Rattle.zr_base.proofs.SumSteps.{get_or_default}
use Rattle.zr_game.specs.declared.leaf.Leaf.{Leaf}
use Rattle.zr_game.proofs.Checks.{all_checked, more_checked, none_checked}
use Rattle.zr_boxes.specs.Paths.{box_of}
use Rattle.zr_boxes.specs.Ranges.{HasRange}
use Rattle.zr_boxes.proofs.bounded.are_own_bounded.Goals as goal

abbrev Bounded : List Leaf → ℕ → ℕ → ℕ × ℤ → Type 0
Bounded leaves i k t = HasRange (box_of leaves) i t.0

pub loop-var-init : goal.loop-var-init
loop-var-init c = none_checked (Bounded c.args.leaves.now c.args.i) c.args.cost.now

pub loop-var-preserved : goal.loop-var-preserved
loop-var-preserved c =
    let i = c.loop-var.var-index in
    let none : ℕ × ℤ = (0, pos 0) in
    let t = get_or c.args.cost.now i none in
    let here = c.loop-var-test.true in
    more_checked (Bounded c.args.leaves.now c.args.i) c.args.cost.now i t here
    (get_or_default c.args.cost.now i none t here) c.loop-var.all c.loop-var.invariant
    c.has_range-all.result c.has_range-all.ensures

pub returns : goal.returns
returns c =
    let all = all_checked (Bounded c.args.leaves.now c.args.i) c.args.cost.now
    c.loop-var.var-index c.loop-var.all (omega arith) (omega arith) c.loop-var.invariant in (
      λ h k d below. all.0 h k d below,
      λ h. all.1 (λ k d below. h k d below),
    )
