use Rattle.std.proofs.Common.{rules, ◌≡◌, ◌++◌, ◌∷◌, ap, ◌∙◌, append_assoc, ℕ, List, get_or, pos, FitsSigned}
use Rattle.std.specs.Int.{w128}
use Rattle.std.proofs.lemmas.Int.{to_z-of_z}
use Rattle.zr_base.proofs.SumSteps.{get_or_default}
use Rattle.zr_form.specs.Numbers.{decimal, signed}
use Rattle.zr_text.proofs.Putting.{all_written, more_written, multipliers_grow, none_written}
use Rattle.zr_text.proofs.writing_lines.put_multipliers.Goals as goal

pub loop-row-init : goal.loop-row-init
loop-row-init c = none_written multipliers_grow c.args.out.now.items c.args.mult.now

pub loop-row-preserved : goal.loop-row-preserved
loop-row-preserved c =
    let fits : FitsSigned w128 (get_or c.args.mult.now c.loop-row.row-index (0, pos 0)).1 = search rules in
    let t = get_or c.args.mult.now c.loop-row.row-index (0, pos 0) in
    let put : c.put_integer_field.new.out.items ≡ c.put_natural_field.new.out.items ++ 32 ∷ signed t.1 = simp to_z-of_z at c.in_ok-put_integer_field.ensures in
    let number : c.put_natural_field.new.out.items ≡ c.loop-row.out.items ++ 32 ∷ decimal t.0 = c.in_ok-put_natural_field.ensures ∙ ap (λ (n : ℕ). c.loop-row.out.items ++ 32 ∷ decimal n) c.from.ensures in
    let both : c.put_integer_field.new.out.items ≡ c.loop-row.out.items ++ ((32 ∷ decimal t.0) ++ 32 ∷ signed t.1) =
    put ∙ (ap (λ (z : List ℕ). z ++ 32 ∷ signed t.1) number ∙ append_assoc c.loop-row.out.items (32 ∷ decimal t.0) (32 ∷ signed t.1)) in
    more_written multipliers_grow c.args.out.now.items c.args.mult.now c.loop-row.row-index t c.loop-row.out.items c.put_integer_field.new.out.items c.loop-row-test.true (get_or_default c.args.mult.now c.loop-row.row-index (0, pos 0) t c.loop-row-test.true) c.loop-row.invariant both

pub returns : goal.returns
returns c = all_written multipliers_grow c.args.out.now.items c.args.mult.now c.loop-row.row-index c.loop-row.out.items c.loop-row-test.false c.loop-row.invariant
