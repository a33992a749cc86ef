use Rattle.std.proofs.Common.{◌∙◌, rules, ap, List, ℕ}
use Rattle.std.proofs.lemmas.List.{take_rest}
use Rattle.zr_form.specs.Numbers.{natural, negated}
use Rattle.zr_form.proofs.Steps.{narrow_z, integer_nothing, integer_minus, integer_plain}
use Rattle.zr_form.proofs.cut.number.Goals as goal

pub returns-then-is_empty : goal.returns-then-is_empty
returns-then-is_empty c = integer_nothing c.args.field.now (search rules)

pub returns-then-field-eq45 : goal.returns-then-field-eq45
returns-then-field-eq45 c = c.below_zero.ensures ∙ ap (λ (z : List ℕ). narrow_z (negated (natural z))) (take_rest c.args.field.now 1) ∙ integer_minus c.args.field.now (search rules) (search rules)

pub returns-else-field-eq45 : goal.returns-else-field-eq45
returns-else-field-eq45 c = c.above_zero.ensures ∙ integer_plain c.args.field.now (search rules) (search rules)
