use Rattle.std.proofs.Common.{◌∙◌}
use Rattle.zr_form.specs.Code.{positive}
use Rattle.zr_form.proofs.AnySize.{nothing_taken, field_taken, field_refused, positive_natural}
use Rattle.zr_form.proofs.loose.any_positive.Goals as goal

pub returns-in_err-left : goal.returns-in_err-left
returns-in_err-left c = rw c.from_residual.ensures (nothing_taken positive c.args.left c.in_err-left.was)

pub returns-then-is_above_zero : goal.returns-then-is_above_zero
returns-then-is_above_zero c =
    field_taken positive c.args.left c.in_ok-left.field-0 c.next_field.result.0 c.next_field.result.1 c.is_above_zero.result c.in_ok-left.was c.next_field.ensures.before c.next_field.ensures.after (c.is_above_zero.ensures ∙ positive_natural c.next_field.result.0.now) c.if-is_above_zero.true

pub returns-else-is_above_zero : goal.returns-else-is_above_zero
returns-else-is_above_zero c =
    field_refused positive c.args.left c.in_ok-left.field-0 c.next_field.result.0 c.next_field.result.1 c.is_above_zero.result c.in_ok-left.was c.next_field.ensures.before c.next_field.ensures.after (c.is_above_zero.ensures ∙ positive_natural c.next_field.result.0.now) c.if-is_above_zero.false
