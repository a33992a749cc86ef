use Rattle.zr_lines.proofs.LooseSteps.{integer_spelled_found, integer_missing}
use Rattle.zr_lines.proofs.loose_field.spelled_integer.Goals as goal

pub returns-in_err-field : goal.returns-in_err-field
returns-in_err-field c = rw c.from_residual.ensures (integer_missing c.args.left c.in_err-field.ensures)

pub returns : goal.returns
returns c = integer_spelled_found c.args.left c.in_ok-field.field c.in_ok-field.rest c.in_ok-field.ensures
