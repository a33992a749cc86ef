use Rattle.std.proofs.Common.{rules, refl, get_or, pos, FitsSigned}
use Rattle.std.specs.Int.{w64}
use Rattle.std.proofs.lemmas.Int.{to_z-of_z}
use Rattle.zr_game.specs.Forms.{IsCoefficient}
use Rattle.zr_game.proofs.Checks.{all_ascending, next_ascending}
use Rattle.zr_game.proofs.form.are_terms.Goals as goal

pub loop-column-init : goal.loop-column-init
loop-column-init c = record { left = (λ h. h.1, λ h. (refl, h)) }

pub loop-column-preserved : goal.loop-column-preserved
loop-column-preserved c =
    let n : FitsSigned w64 (get_or c.args.coef.now c.loop-column.column-index (0, pos 0)).1 = search
    rules in
    next_ascending IsCoefficient c.args.columns c.args.coef.now c.loop-column.column-index
    c.loop-column.low c.loop-column.all c.is_next_term-all.result (0, pos 0)
    c.loop-column-test.true c.loop-column.invariant
    (simp to_z-of_z at c.is_next_term-all.ensures)

pub returns : goal.returns
returns c =
    all_ascending IsCoefficient c.args.columns c.args.coef.now c.loop-column.column-index
    c.loop-column.low c.loop-column.all c.loop-column-test.false c.loop-column.invariant
