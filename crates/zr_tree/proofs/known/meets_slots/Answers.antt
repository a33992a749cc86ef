use Rattle.std.proofs.Common.{◌<◌, arith, sym, length}
use Rattle.std.proofs.lemmas.Result.{err_from_is_err_and}
use Rattle.zr_base.proofs.Telling.{all_tested, more, stops}
use Rattle.zr_game.specs.Players.{player_of}
use Rattle.zr_game.specs.Leaves.{leaf_of, slot_of, slots}
use Rattle.zr_tree.specs.CoverSteps.{SlotMet, slot_wide}
use Rattle.zr_tree.proofs.KnownRows.{all_met, slot_read}
use Rattle.zr_tree.proofs.known.meets_slots.Goals as goal

pub returns-in_err-all : goal.returns-in_err-all
returns-in_err-all c =
    let rows = slots (player_of c.args.player.now) (leaf_of c.args.leaf.now) in
    let columns = length (player_of c.args.player.now).vars in
    let x = slot_of rows c.loop-slot.slot in
    let n = c.slot_count-slot-end.ensures (leaf_of c.args.leaf.now) in
    let below : c.loop-slot.slot < length rows = omega (arith, n, c.loop-slot-test.true) in
    let p = err_from_is_err_and c.from_residual.result c.from_residual.ensures.1 in
    rw (p.1, p.2) (stops (λ k slot. SlotMet (player_of c.args.player.now) c.args.point.now slot) (slot_wide columns c.args.point.now) rows c.loop-slot.slot x below (sym (slot_read rows c.loop-slot.slot x below)) c.loop-slot.all c.loop-slot.invariant c.meets_slot.result _ c.meets_slot.ensures c.in_err-all.was)

pub loop-slot-preserved : goal.loop-slot-preserved
loop-slot-preserved c =
    let rows = slots (player_of c.args.player.now) (leaf_of c.args.leaf.now) in
    let columns = length (player_of c.args.player.now).vars in
    let x = slot_of rows c.loop-slot.slot in
    let n = c.slot_count-slot-end.ensures (leaf_of c.args.leaf.now) in
    let below : c.loop-slot.slot < length rows = omega (arith, n, c.loop-slot-test.true) in
    more (λ k slot. SlotMet (player_of c.args.player.now) c.args.point.now slot) (slot_wide columns c.args.point.now) rows c.loop-slot.slot x below (sym (slot_read rows c.loop-slot.slot x below)) c.loop-slot.all c.loop-slot.invariant c.meets_slot.result c.in_ok-all.field-0 c.meets_slot.ensures c.in_ok-all.was

pub returns : goal.returns
returns c =
    let rows = slots (player_of c.args.player.now) (leaf_of c.args.leaf.now) in
    let columns = length (player_of c.args.player.now).vars in
    let n = c.slot_count-slot-end.ensures (leaf_of c.args.leaf.now) in
    let t = all_tested (λ k slot. SlotMet (player_of c.args.player.now) c.args.point.now slot) (slot_wide columns c.args.point.now) rows c.loop-slot.slot c.loop-slot.all (omega (arith, n, c.loop-slot-test.false, c.loop-slot.auto.slot-end)) c.loop-slot.invariant in
    let m = all_met (player_of c.args.player.now) c.args.point.now rows in
    (t.0, (λ h. m.0 (t.1.0 h), λ h. t.1.1 (m.1 h)))
