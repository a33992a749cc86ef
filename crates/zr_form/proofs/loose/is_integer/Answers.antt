use Rattle.std.proofs.Common.{rules, ◌∙◌, ap, List, ℕ}
use Rattle.std.specs.Prelude.{is_some, nat_le}
use Rattle.std.proofs.lemmas.List.{take_rest}
use Rattle.zr_form.specs.Numbers.{natural}
use Rattle.zr_form.specs.Fields.{only_if}
use Rattle.zr_form.proofs.AnySize.{nothing_integer, minus_integer, plain_integer}
use Rattle.zr_form.proofs.loose.is_integer.Goals as goal

pub returns-then-is_empty : goal.returns-then-is_empty
returns-then-is_empty c = nothing_integer c.args.field.now (search rules)

pub returns-then-field-eq45 : goal.returns-then-field-eq45
returns-then-field-eq45 c = c.is_above_zero.ensures ∙ ap (λ (z : List ℕ). is_some (only_if (nat_le 1) (natural z))) (take_rest c.args.field.now 1) ∙ minus_integer c.args.field.now (search rules) (search rules)

pub returns-else-field-eq45 : goal.returns-else-field-eq45
returns-else-field-eq45 c = c.is_natural.ensures ∙ plain_integer c.args.field.now (search rules) (search rules)
