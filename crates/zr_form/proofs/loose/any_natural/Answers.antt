use Rattle.zr_form.specs.Numbers.{natural}
use Rattle.zr_form.proofs.AnySize.{nothing_taken, field_taken, field_refused}
use Rattle.zr_form.proofs.loose.any_natural.Goals as goal

pub returns-in_err-left : goal.returns-in_err-left
returns-in_err-left c = rw c.from_residual.ensures (nothing_taken natural c.args.left c.in_err-left.was)

pub returns-then-is_natural : goal.returns-then-is_natural
returns-then-is_natural c =
    field_taken natural c.args.left c.in_ok-left.field-0 c.next_field.result.0 c.next_field.result.1 c.is_natural.result c.in_ok-left.was c.next_field.ensures.before c.next_field.ensures.after c.is_natural.ensures c.if-is_natural.true

pub returns-else-is_natural : goal.returns-else-is_natural
returns-else-is_natural c =
    field_refused natural c.args.left c.in_ok-left.field-0 c.next_field.result.0 c.next_field.result.1 c.is_natural.result c.in_ok-left.was c.next_field.ensures.before c.next_field.ensures.after c.is_natural.ensures c.if-is_natural.false
