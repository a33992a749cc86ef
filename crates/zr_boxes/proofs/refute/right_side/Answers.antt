use Rattle.std.proofs.Common.{◌≡◌, ◌∙◌, rules, pos, sym, get_or, to_z, FitsSigned}
use Rattle.std.specs.Int.{w128}
use Rattle.std.proofs.lemmas.Int.{to_z-of_z}
use Rattle.std.proofs.lemmas.Result.{err_from_is_err_and}
use Rattle.zr_base.specs.Sums.{sum_step}
use Rattle.zr_tree.specs.Right.{slot_le}
use Rattle.zr_tree.specs.SlotRows.{rows_at}
use Rattle.zr_boxes.proofs.SumsOnward.{onward_more, onward_wide}
use Rattle.zr_boxes.proofs.refute.right_side.Goals as goal
use Rattle.zr_boxes.proofs.refute.right_side.Goals.{After-add_product}

stepped : (c : After-add_product)
    → c.add_product.result
    ≡ sum_step (to_z w128 c.loop-slot.sum-bits) (
      (get_or c.args.mult.now c.loop-slot.slot-index (0, pos 0)).1,
      slot_le (rows_at c.args.player.now c.args.leaf.now)
          (get_or c.args.mult.now c.loop-slot.slot-index (0, pos 0)).0,
    )
stepped c =
    let f : FitsSigned w128 (get_or c.args.mult.now c.loop-slot.slot-index (0, pos 0)).1 =
    search rules in
    let g : FitsSigned w128 c.slot_right.result = search rules in
    rw c.slot_right.ensures at (simp to_z-of_z at c.add_product.ensures.step)

pub returns-in_err-sum : goal.returns-in_err-sum
returns-in_err-sum c =
    let at = goal.at.returns-in_err-sum c in
    let p = err_from_is_err_and c.from_residual.result c.from_residual.ensures.1 in
    rw (p.1, p.2)
    (sym (onward_wide (λ t. (t.1, slot_le (rows_at c.args.player.now c.args.leaf.now) t.0))
    c.args.mult.now c.loop-slot.slot-index (0, pos 0) c.loop-slot-test.true
    (to_z w128 c.loop-slot.sum-bits) c.loop-slot.invariant _
    (sym (stepped at.After-add_product) ∙ c.in_err-sum.was)))

pub loop-slot-preserved : goal.loop-slot-preserved
loop-slot-preserved c =
    let at = goal.at.loop-slot-preserved c in
    let f : FitsSigned w128 c.in_ok-sum.sum = search rules in
    simp to_z-of_z
    (onward_more (λ t. (t.1, slot_le (rows_at c.args.player.now c.args.leaf.now) t.0))
    c.args.mult.now c.loop-slot.slot-index (0, pos 0) c.loop-slot-test.true
    (to_z w128 c.loop-slot.sum-bits) c.loop-slot.invariant c.in_ok-sum.sum
    (sym (stepped at.After-add_product) ∙ c.in_ok-sum.was) c.in_ok-sum.ensures.narrow)
