use Rattle.zr_lines.proofs.LooseSteps.{count_found, count_missing}
use Rattle.zr_text.proofs.loose.after_player_count.Goals as goal

pub returns-in_err-rest : goal.returns-in_err-rest
returns-in_err-rest c = rw c.from_residual.ensures (count_missing c.args.left c.in_err-rest.ensures)

pub returns : goal.returns
returns c = count_found c.args.left c.in_ok-rest.field-0-0 c.in_ok-rest.rest c.in_ok-rest.ensures
