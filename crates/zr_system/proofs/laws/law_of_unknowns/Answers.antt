use Rattle.zr_system.proofs.ColumnOnce.{none_else, one_column}
use Rattle.zr_system.proofs.laws.law_of_unknowns.Goals as goal

pub returns-clause-once : goal.returns-clause-once
returns-clause-once c = λ game leaves u h. one_column game leaves u h

pub returns-clause-alone : goal.returns-clause-alone
returns-clause-alone c = λ game leaves j u e. none_else game leaves j u e
