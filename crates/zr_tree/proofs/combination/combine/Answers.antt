use Rattle.std.proofs.Common.{rules, ◌≡◌, subst, ◌∙◌, ℕ, pos, length, take, get_or, FitsSigned, to_z}
use Rattle.std.specs.Int.{w128}
use Rattle.std.proofs.lemmas.Int.{to_z-of_z}
use Rattle.std.proofs.lemmas.Result.{err_from_is_err_and}
use Rattle.zr_game.specs.Players.{player_of}
use Rattle.zr_game.specs.Leaves.{leaf_of, slots}
use Rattle.zr_tree.specs.Combining.{HasWideStep}
use Rattle.zr_tree.proofs.Combined.{combined_more, le_narrow, step_wide, sums_narrow}
use Rattle.zr_tree.proofs.combination.combine.Goals as goal

pub add_slot-requires-clause-narrow : goal.add_slot-requires-clause-narrow
add_slot-requires-clause-narrow c =
    sums_narrow (slots (player_of c.args.player.now) (leaf_of c.args.leaf.now)) (take c.loop-slot.slot-index c.args.mult.now) c.loop-slot.sums (to_z w128 c.loop-slot.le-bits) c.loop-slot.invariant

pub add_slot-requires-clause-narrow_le : goal.add_slot-requires-clause-narrow_le
add_slot-requires-clause-narrow_le c =
    le_narrow (slots (player_of c.args.player.now) (leaf_of c.args.leaf.now)) (take c.loop-slot.slot-index c.args.mult.now) c.loop-slot.sums (to_z w128 c.loop-slot.le-bits) c.loop-slot.invariant

pub returns-in_err-le-clause-wide : goal.returns-in_err-le-clause-wide
returns-in_err-le-clause-wide c =
    let p = err_from_is_err_and c.from_residual.result c.from_residual.ensures.1 in
    let rows = slots (player_of c.args.player.now) (leaf_of c.args.leaf.now) in
    let same : length c.loop-slot.sums ≡ length (player_of c.args.player.now).vars = c.loop-slot.auto.sums ∙ c.clear.auto.sums ∙ c.requires.columns in
    let b : FitsSigned w128 (get_or c.args.mult.now c.loop-slot.slot-index (0, pos 0)).1 = search rules in
    let e = c.in_err-le.ensures in
    rw p.1 (subst (λ (n : ℕ). HasWideStep n rows c.args.mult.now) same (step_wide rows c.args.mult.now c.loop-slot.slot-index c.loop-slot-test.true c.loop-slot.sums (to_z w128 c.loop-slot.le-bits) c.loop-slot.invariant (simp to_z-of_z at e.wide)))

pub loop-slot-preserved : goal.loop-slot-preserved
loop-slot-preserved c =
    let rows = slots (player_of c.args.player.now) (leaf_of c.args.leaf.now) in
    let b : FitsSigned w128 (get_or c.args.mult.now c.loop-slot.slot-index (0, pos 0)).1 = search rules in
    let f : FitsSigned w128 c.in_ok-le.le = search rules in
    let e = c.in_ok-le.ensures in
    simp to_z-of_z (combined_more rows c.args.mult.now c.loop-slot.slot-index c.loop-slot-test.true c.loop-slot.sums (to_z w128 c.loop-slot.le-bits) c.loop-slot.invariant c.add_slot.new.sums c.in_ok-le.le c.add_slot.auto.sums (simp to_z-of_z at e.left) (simp to_z-of_z at e.right))
