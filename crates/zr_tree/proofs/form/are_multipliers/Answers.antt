use Rattle.std.proofs.Common.{rules, refl, ◌^◌, get_or, pos, ◌≤ℤ◌, FitsSigned}
use Rattle.std.specs.Int.{w128}
use Rattle.std.proofs.lemmas.Int.{to_z-of_z}
use Rattle.zr_base.specs.Steps.{IsNarrow}
use Rattle.zr_game.proofs.Checks.{all_ascending, next_ascending}
use Rattle.zr_tree.proofs.form.are_multipliers.Goals as goal

pub loop-number-init : goal.loop-number-init
loop-number-init c = record { left = (λ h. h.1, λ h. (refl, h)) }

pub loop-number-preserved : goal.loop-number-preserved
loop-number-preserved c =
    let n : FitsSigned w128 (get_or c.args.mult.now c.loop-number.number-index (0, pos 0)).1 = search rules in
    next_ascending (λ z. ((pos 1) ≤ℤ z) × IsNarrow z) (2 ^ 32) c.args.mult.now c.loop-number.number-index c.loop-number.low c.loop-number.all c.is_next-all.result (0, pos 0) c.loop-number-test.true c.loop-number.invariant (simp to_z-of_z at c.is_next-all.ensures)

pub returns : goal.returns
returns c =
    all_ascending (λ z. ((pos 1) ≤ℤ z) × IsNarrow z) (2 ^ 32) c.args.mult.now c.loop-number.number-index c.loop-number.low c.loop-number.all c.loop-number-test.false c.loop-number.invariant
