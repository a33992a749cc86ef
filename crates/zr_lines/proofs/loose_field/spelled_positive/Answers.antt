use Rattle.zr_lines.proofs.LooseSteps.{positive_spelled_found, positive_missing}
use Rattle.zr_lines.proofs.loose_field.spelled_positive.Goals as goal

pub returns-in_err-field : goal.returns-in_err-field
returns-in_err-field c = rw c.from_residual.ensures (positive_missing c.args.left c.in_err-field.ensures)

pub returns : goal.returns
returns c = positive_spelled_found c.args.left c.in_ok-field.field c.in_ok-field.rest c.in_ok-field.ensures
