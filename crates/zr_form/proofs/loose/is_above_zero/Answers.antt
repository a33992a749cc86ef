use Rattle.std.proofs.Common.{rules, ◌∙◌, ap, get_or}
use Rattle.std.specs.Prelude.{not}
use Rattle.std.proofs.lemmas.Bool.{eq-eqb}
use Rattle.zr_form.proofs.AnySize.{nothing_above, digits_above, zero_above}
use Rattle.zr_form.proofs.loose.is_above_zero.Goals as goal

pub returns-then-is_empty : goal.returns-then-is_empty
returns-then-is_empty c = nothing_above c.args.field.now (search rules)

pub returns-then-field-ne48 : goal.returns-then-field-ne48
returns-then-field-ne48 c = digits_above c.args.field.now c.are_digits.result (search rules) (search rules) c.are_digits.ensures

pub returns-else-field-ne48 : goal.returns-else-field-ne48
returns-else-field-ne48 c = ap not (eq-eqb (get_or c.args.field.now 0 0) 48 c.if-field-ne48.false) ∙ zero_above c.args.field.now (search rules) c.if-field-ne48.false
