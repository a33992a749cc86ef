use Rattle.zr_form.specs.Numbers.{integer}
use Rattle.zr_form.proofs.AnySize.{nothing_taken, field_taken, field_refused}
use Rattle.zr_form.proofs.loose.any_integer.Goals as goal

pub returns-in_err-left : goal.returns-in_err-left
returns-in_err-left c = rw c.from_residual.ensures (nothing_taken integer c.args.left c.in_err-left.was)

pub returns-then-is_integer : goal.returns-then-is_integer
returns-then-is_integer c =
    field_taken integer c.args.left c.in_ok-left.field-0 c.next_field.result.0 c.next_field.result.1 c.is_integer.result c.in_ok-left.was c.next_field.ensures.before c.next_field.ensures.after c.is_integer.ensures c.if-is_integer.true

pub returns-else-is_integer : goal.returns-else-is_integer
returns-else-is_integer c =
    field_refused integer c.args.left c.in_ok-left.field-0 c.next_field.result.0 c.next_field.result.1 c.is_integer.result c.in_ok-left.was c.next_field.ensures.before c.next_field.ensures.after c.is_integer.ensures c.if-is_integer.false
