use Rattle.std.proofs.Common.{arith, pos, get_or, IsSome}
use Rattle.zr_base.proofs.SumSteps.{get_or_default}
use Rattle.zr_game.specs.Leaves.{slot_of}
use Rattle.zr_game.proofs.Checks.{all_checked, more_checked, none_checked}
use Rattle.zr_tree.specs.SlotRows.{rows_at}
use Rattle.zr_tree.proofs.Presence.{each_present, present_if}
use Rattle.zr_tree.proofs.SlotReads.{told_present}
use Rattle.zr_boxes.proofs.refute.are_present.Goals as goal

pub loop-slot-init : goal.loop-slot-init
loop-slot-init c =
    none_checked (λ k t. IsSome (slot_of (rows_at c.args.player.now c.args.leaf.now) t.0))
    c.args.mult.now

pub loop-slot-preserved : goal.loop-slot-preserved
loop-slot-preserved c =
    let rows = rows_at c.args.player.now c.args.leaf.now in
    let i = c.loop-slot.slot-index in
    let t = get_or c.args.mult.now i (0, pos 0) in
    more_checked (λ k t. IsSome (slot_of rows t.0)) c.args.mult.now i t c.loop-slot-test.true
    (get_or_default c.args.mult.now i (0, pos 0) t c.loop-slot-test.true) c.loop-slot.all
    c.loop-slot.invariant c.is_some-all.result
    (told_present c.slot_row.result (slot_of rows t.0) c.is_some-all.result c.slot_row.ensures.row
    c.is_some-all.ensures)

pub returns : goal.returns
returns c =
    let rows = rows_at c.args.player.now c.args.leaf.now in
    let all = all_checked (λ k t. IsSome (slot_of rows t.0)) c.args.mult.now
    c.loop-slot.slot-index c.loop-slot.all (omega arith) (omega arith) c.loop-slot.invariant in (
      λ h. present_if rows c.args.mult.now (all.0 h),
      λ h. all.1 (each_present rows c.args.mult.now h),
    )
