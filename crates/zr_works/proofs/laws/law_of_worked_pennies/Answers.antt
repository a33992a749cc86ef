use Rattle.std.proofs.Common.{refl}
use Rattle.zr_works.proofs.laws.law_of_worked_pennies.Goals as goal

pub returns-clause-work : goal.returns-clause-work
returns-clause-work c = refl

pub returns-clause-best : goal.returns-clause-best
returns-clause-best c = refl
