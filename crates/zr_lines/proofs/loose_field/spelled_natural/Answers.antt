use Rattle.zr_lines.proofs.LooseSteps.{index_found, index_missing}
use Rattle.zr_lines.proofs.loose_field.spelled_natural.Goals as goal

pub returns-in_err-field : goal.returns-in_err-field
returns-in_err-field c = rw c.from_residual.ensures (index_missing c.args.left c.in_err-field.ensures)

pub returns : goal.returns
returns c = index_found c.args.left c.in_ok-field.field c.in_ok-field.rest c.in_ok-field.ensures
