use Rattle.zr_words.proofs.OneCommand.{one_command, one_form}
use Rattle.zr_words.proofs.laws.law_of_words.Goals as goal

pub returns-clause-form : goal.returns-clause-form
returns-clause-form c = one_form

pub returns-clause-command : goal.returns-clause-command
returns-clause-command c = one_command
