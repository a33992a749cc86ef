use Rattle.zr_works.proofs.Working.{best_left, best_spent}
use Rattle.zr_works.proofs.laws.law_of_best_work.Goals as goal

pub returns-clause-left : goal.returns-clause-left
returns-clause-left c = best_left

pub returns-clause-spent : goal.returns-clause-spent
returns-clause-spent c = best_spent
