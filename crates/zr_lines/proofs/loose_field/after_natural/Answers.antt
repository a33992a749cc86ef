use Rattle.zr_lines.proofs.LooseSteps.{index_found, index_missing}
use Rattle.zr_lines.proofs.loose_field.after_natural.Goals as goal

pub returns-in_err-rest : goal.returns-in_err-rest
returns-in_err-rest c = rw c.from_residual.ensures (index_missing c.args.left c.in_err-rest.ensures)

pub returns : goal.returns
returns c = let n = index_found c.args.left c.in_ok-rest.field-0-0 c.in_ok-rest.rest c.in_ok-rest.ensures in (n.0, n.2)
