use Rattle.std.proofs.Common.{refl}
use Rattle.zr_system.proofs.laws.law_of_worked_counts.Goals as goal

pub returns-clause-rows : goal.returns-clause-rows
returns-clause-rows c = refl

pub returns-clause-columns : goal.returns-clause-columns
returns-clause-columns c = refl

pub returns-clause-cells : goal.returns-clause-cells
returns-clause-cells c = refl
