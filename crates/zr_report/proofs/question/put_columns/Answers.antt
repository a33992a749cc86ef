use Rattle.std.proofs.Common.{◌≡◌, ◌∙◌, ◌++◌, ◌∷◌, ℕ, ap, get_or}
use Rattle.zr_base.proofs.SumSteps.{get_or_default}
use Rattle.zr_form.specs.Numbers.{decimal}
use Rattle.zr_report.proofs.Growing.{columns_grow}
use Rattle.zr_text.proofs.Putting.{all_written, more_written, none_written}
use Rattle.zr_report.proofs.question.put_columns.Goals as goal

pub loop-column-init : goal.loop-column-init
loop-column-init c = none_written columns_grow c.args.out.now.items c.args.basis.now

pub loop-column-preserved : goal.loop-column-preserved
loop-column-preserved c =
    let n = get_or c.args.basis.now c.loop-column.column-index 0 in
    let put : c.put_natural_field.new.out.items ≡ c.loop-column.out.items ++ 32 ∷ decimal n = c.in_ok-put_natural_field.ensures ∙ ap (λ (k : ℕ). c.loop-column.out.items ++ 32 ∷ decimal k) c.from.ensures in
    more_written columns_grow c.args.out.now.items c.args.basis.now c.loop-column.column-index n
    c.loop-column.out.items c.put_natural_field.new.out.items c.loop-column-test.true
    (get_or_default c.args.basis.now c.loop-column.column-index 0 n c.loop-column-test.true)
    c.loop-column.invariant put

pub returns : goal.returns
returns c =
    all_written columns_grow c.args.out.now.items c.args.basis.now c.loop-column.column-index c.loop-column.out.items
    c.loop-column-test.false c.loop-column.invariant
