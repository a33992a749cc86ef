use Rattle.std.proofs.Common.{◌∙◌, rules}
use Rattle.zr_form.proofs.Steps.{natural_nothing, natural_zero, natural_padded, natural_digits}
use Rattle.zr_form.proofs.cut.natural.Goals as goal

pub returns-then-is_empty : goal.returns-then-is_empty
returns-then-is_empty c = natural_nothing c.args.field.now (search rules)

pub returns-then-field-eq1 : goal.returns-then-field-eq1
returns-then-field-eq1 c = natural_zero c.args.field.now (search rules) (search rules)

pub returns-then-field-eq48 : goal.returns-then-field-eq48
returns-then-field-eq48 c = natural_padded c.args.field.now (search rules) (search rules)

pub returns : goal.returns
returns c = c.digits.ensures ∙ natural_digits c.args.field.now (search rules) (search rules)
